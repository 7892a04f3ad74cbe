-- What the rows of a parse are after each use of an option or a positional.
use Rattle.std.proofs.Common.{◌≡◌, ◌∙◌, List, [], ◌∷◌, ◌++◌, Option, Some, None, refl, ap, codes, true, false, Bool, append-nil, cond}
use Rattle.std.proofs.Common.{is_some, option_map, arith}
use Rattle.std.specs.{Prelude.slice_get, Prelude.find, Str.bytes_eq}
use Rattle.clap.specs.Walk.{Rule, Row, Text, at_row, has_row, more_values, with_values, without}
use Rattle.clap.specs.{Simple.Shape, Simple.built, declared.builder.value_parser.Reading.TheVariants.AsWritten}
use Rattle.clap.specs.declared.parser.matches.ValueSource.TheVariants.{CommandLine}
use Rattle.cli_words.specs.{parser, Arguments}

abbrev pub top : Shape
top = (built parser).top

abbrev pub rules : List Rule
rules = top.rules

-- ---- one row

abbrev pub row : Text → Text → Row
row id value = record {
  id = id;
  values = value ∷ [];
  count = None;
  source = Some CommandLine;
  reading = AsWritten;
}

abbrev pub row_at : Text → List Row → Option Row
row_at id rows = find (λ r. bytes_eq r.id id) rows

pub has_row-row_at : (id : Text) (rows : List Row) → has_row id rows ≡ is_some (row_at id rows)
has_row-row_at id [] = refl
has_row-row_at id (r ∷ rs) = let later = has_row-row_at id rs in grind arith

pub missing : (id : Text) (change : Row → List Row) (more rows : List Row) → row_at id rows ≡ None
    → at_row id change more rows ≡ rows ++ more
missing id change more [] e = refl
missing id change more (r ∷ rs) e = let later = missing id change more rs in grind arith

-- the use of an id that has no row adds one
pub added : (id value : Text) (rows : List Row) → row_at id rows ≡ None
    → with_values id AsWritten CommandLine (value ∷ []) (without id rows) ≡ rows ++ row id value ∷ []
added id value rows e =
    ap (with_values id AsWritten CommandLine (value ∷ [])) (missing id (λ _. []) [] rows e ∙ append-nil rows)
    ∙ missing id (more_values CommandLine (value ∷ [])) _ rows e

pub other : (id : Text) (r : Row) (rows : List Row) → bytes_eq r.id id ≡ false
    → row_at id (rows ++ r ∷ []) ≡ row_at id rows
other id r [] e = grind arith
other id r (x ∷ xs) e = let later = other id r xs e in grind arith

pub own : (id : Text) (r : Row) (rows : List Row) → bytes_eq r.id id ≡ true → row_at id rows ≡ None
    → row_at id (rows ++ r ∷ []) ≡ Some r
own id r [] e none = grind arith
own id r (x ∷ xs) e none = let later = own id r xs e in grind arith

-- ---- all rows

-- what has a row
pub data Slot : Type 0 where
  AtEvents AtPolls AtLarge AtCycles AtOps AtSlack AtCommand AtSecond AtThird : Slot

abbrev pub id_of : Slot → Text
id_of AtEvents = codes "events"
id_of AtPolls = codes "polls"
id_of AtLarge = codes "large"
id_of AtCycles = codes "cycles"
id_of AtOps = codes "ops"
id_of AtSlack = codes "slack"
id_of AtCommand = codes "command"
id_of AtSecond = codes "second"
id_of AtThird = codes "third"

-- the text that was said for it
abbrev pub text_said : Arguments → Slot → Option Text
text_said said AtEvents = cond said.events (Some (codes "true")) None
text_said said AtPolls = cond said.polls (Some (codes "true")) None
text_said said AtLarge = cond said.large (Some (codes "true")) None
text_said said AtCycles = said.cycles
text_said said AtOps = said.ops
text_said said AtSlack = said.slack
text_said said AtCommand = slice_get said.positionals 0
text_said said AtSecond = slice_get said.positionals 1
text_said said AtThird = slice_get said.positionals 2

abbrev pub value_row : Text → Option Text → Option Row
value_row id = option_map (row id)

-- the rows are those of what was said
abbrev pub Rows : Arguments → List Row → Type 0
Rows said rows = (k : Slot) → row_at (id_of k) rows ≡ value_row (id_of k) (text_said said k)

-- what was said for the other slots is as it was
abbrev pub SameBut : Slot → Arguments → Arguments → Type 0
SameBut k said now = (j : Slot) → bytes_eq (id_of k) (id_of j) ≡ false → text_said now j ≡ text_said said j

slot_is : (k j : Slot) → bytes_eq (id_of k) (id_of j) ≡ true → k ≡ j
slot_is k j e = grind arith

-- a row for a slot for which nothing was said
pub rows_more : (k : Slot) (v : Text) (said now : Arguments) (rows : List Row) → Rows said rows → text_said said k ≡ None
    → text_said now k ≡ Some v → SameBut k said now → Rows now (rows ++ row (id_of k) v ∷ [])
rows_more k v said now rows h none some same j =
    let there = h j in let kept = same j in let is = slot_is k j in
    let others = other (id_of j) (row (id_of k) v) rows in let mine = own (id_of j) (row (id_of k) v) rows in
    grind arith

-- ---- what each use leaves as it was

pub events_same : (said : Arguments) → SameBut AtEvents said (record said { events = true })
events_same said j e = grind arith

pub polls_same : (said : Arguments) → SameBut AtPolls said (record said { polls = true })
polls_same said j e = grind arith

pub large_same : (said : Arguments) → SameBut AtLarge said (record said { large = true })
large_same said j e = grind arith

pub cycles_same : (said : Arguments) (v : Text) → SameBut AtCycles said (record said { cycles = Some v })
cycles_same said v j e = grind arith

pub ops_same : (said : Arguments) (v : Text) → SameBut AtOps said (record said { ops = Some v })
ops_same said v j e = grind arith

pub slack_same : (said : Arguments) (v : Text) → SameBut AtSlack said (record said { slack = Some v })
slack_same said v j e = grind arith

module _ (events polls large : Bool) (cycles ops slack : Option Text) where
  abbrev pub having : List Text → Arguments
  having ps = record { events = events; polls = polls; large = large; cycles = cycles; ops = ops; slack = slack; positionals = ps }

  pub first_same : (v : Text) → SameBut AtCommand (having []) (having (v ∷ []))
  first_same v j e = grind arith

  pub second_same : (a v : Text) → SameBut AtSecond (having (a ∷ [])) (having (a ∷ v ∷ []))
  second_same a v j e = grind arith

  pub third_same : (a b v : Text) → SameBut AtThird (having (a ∷ b ∷ [])) (having (a ∷ b ∷ v ∷ []))
  third_same a b v j e = grind arith
