-- The parser refuses what is not accepted, and has what was said of the words that it takes.
use Rattle.std.proofs.Common.{◌≡◌, ◌∙◌, List, [], ◌∷◌, ◌++◌, Option, Some, None, refl, sym, ap, subst, codes, true, false, Bool, cond, drop}
use Rattle.std.proofs.Common.{fold, is_some, arith}
use Rattle.std.specs.{Prelude.option_and_then, List.AllByRecursion, List.list_all, Str.IsUtf8, Str.bytes_eq}
use Rattle.clap.specs.{Values.bool_text, Simple.built, Simple.matches_of, Kinds.or_else, Faults.default_fault, Faults.defaults_fault}
use Rattle.clap.specs.{Faults.fault_of, declared.builder.value_parser.Reading.TheVariants.AsWritten, Walk.Row, Walk.Rule, Walk.with_values}
use Rattle.clap.specs.{Walk.first_of, Walk.has_row, Walk.idle, Walk.is_empty, Walk.more_values, Walk.nothing_held, Walk.one_of}
use Rattle.clap.specs.{Walk.row_text, Walk.with_default, declared.parser.matches.ValueSource.TheVariants.DefaultValue}
use Rattle.clap.proofs.{FaultLemmas.leaf_fault, SimpleLemmas.is_nil}
use Rattle.cli_words.specs.{parser, Flag, Arguments, Text, accepted, command_of, no_arguments, said_from}
use Rattle.cli_words.specs.CommandWords.{Events, Large, Polls}
use Rattle.cli_words.proofs.RowLemmas.{AtEvents, AtLarge, AtPolls, Rows, Slot, has_row-row_at, id_of, missing, other, own, row_at, rules}
use Rattle.cli_words.proofs.RowLemmas.{text_said, value_row}
use Rattle.cli_words.proofs.WalkSteps.{AtMostThree, Ends, Holds, at, clear, end_of, fails, fault_at, first_clear, flag_at, passes, rows_in}
use Rattle.cli_words.proofs.WalkSteps.{second_clear, settle_at}
use Rattle.cli_words.proofs.ReadLemmas.{both_read}

-- ---- defaults

abbrev has_none : Rule → Bool
has_none a = is_empty a.defaults

no_default_fault : (rows : List Row) (a : Rule) → has_none a ≡ true → default_fault rows a ≡ []
no_default_fault rows a e = grind arith

no_default_row : (rows : List Row) (a : Rule) → has_none a ≡ true → with_default rows a ≡ rows
no_default_row rows a e = rw (is_nil a.defaults e) (grind arith)

no_defaults : (rows : List Row) (rs : List Rule) → list_all has_none rs ≡ true
    → (defaults_fault rows rs ≡ []) × (fold with_default rows rs ≡ rows)
unfolding defaults_fault
no_defaults rows [] e = (refl, refl)
no_defaults rows (a ∷ rs) e =
    let own = no_default_row rows a in let clear = no_default_fault rows a in let later = no_defaults rows rs in
    (grind arith, grind arith)

-- where it was not given, a flag has its default
abbrev defaulted : Flag → List Row → List Row
defaulted f rows = with_default rows (flag_at f)

-- the rows at the end
abbrev completed : List Row → List Row
completed rows = defaulted Large (defaulted Polls (defaulted Events rows))

module _ (rows : List Row) where
  events_default : default_fault rows (flag_at Events) ≡ []
  events_default = grind arith

  polls_default : default_fault (defaulted Events rows) (flag_at Polls) ≡ []
  polls_default = grind arith

  large_default : default_fault (defaulted Polls (defaulted Events rows)) (flag_at Large) ≡ []
  large_default = grind arith

  defaults_clear : defaults_fault rows rules ≡ []
  unfolding defaults_fault
  defaults_clear =
      clear _ _ events_default (clear _ _ polls_default (clear _ _ large_default (no_defaults (completed rows) (drop 3 rules) refl).0))

  completed_is : fold with_default rows rules ≡ completed rows
  completed_is = (no_defaults (completed rows) (drop 3 rules) refl).1

-- ---- what the getters read

abbrev slot_of : Flag → Slot
slot_of Events = AtEvents
slot_of Polls = AtPolls
slot_of Large = AtLarge

abbrev flag_said : Arguments → Flag → Bool
flag_said said Events = said.events
flag_said said Polls = said.polls
flag_said said Large = said.large

pub record Final (said : Arguments) (rows : List Row) : Type 0 where
  pub flags : (f : Flag) → one_of (id_of (slot_of f)) rows ≡ Some (bool_text (flag_said said f))
  pub values : (k : Slot) → bytes_eq (codes "events") (id_of k) ≡ false → bytes_eq (codes "polls") (id_of k) ≡ false
      → bytes_eq (codes "large") (id_of k) ≡ false → first_of (id_of k) rows ≡ text_said said k

first_is : (id : Text) (o : Option Text) (rows : List Row) → row_at id rows ≡ value_row id o
    → first_of id rows ≡ o
first_is id o rows e = grind arith

abbrev flag_text : Bool → Option Text
flag_text b = cond b (Some (codes "true")) None

abbrev no_row : Text → Row
no_row id = record { id = id; values = codes "false" ∷ []; count = None; source = Some DefaultValue; reading = AsWritten }

-- with its default a flag is what was said, and the other rows are as they were
record Completes (id : Text) (b : Bool) (rows new : List Row) : Type 0 where
  told : one_of id new ≡ Some (bool_text b)
  others : (other : Text) → bytes_eq id other ≡ false → row_at other new ≡ row_at other rows

abbrev with_false : Text → List Row → List Row
with_false id rows = cond (has_row id rows) rows (with_values id AsWritten DefaultValue (codes "false" ∷ []) rows)

completes : (id : Text) → bytes_eq id id ≡ true → (b : Bool) (rows : List Row) → row_at id rows ≡ value_row id (flag_text b)
    → Completes id b rows (with_false id rows)
completes id self true rows e =
    let has : has_row id rows ≡ true = has_row-row_at id rows ∙ ap is_some e in
    let same : with_false id rows ≡ rows = ap
    (λ b. cond b rows (with_values id AsWritten DefaultValue (codes "false" ∷ []) rows)) has in
    subst (Completes id true rows) (sym same) (record { told = ap (option_and_then row_text) e; others = λ other differs. refl })
completes id self false rows e =
    let has : has_row id rows ≡ false = has_row-row_at id rows ∙ ap is_some e in
    let same : with_false id rows ≡ rows ++ no_row id ∷ [] =
    ap (λ b. cond b rows (with_values id AsWritten DefaultValue (codes "false" ∷ []) rows)) has
    ∙ missing id (more_values DefaultValue (codes "false" ∷ [])) (no_row id ∷ []) rows e in
    subst (Completes id false rows) (sym same) (record {
      told = ap (option_and_then row_text) (own id (no_row id) rows self e);
      others = λ other_id differs. other other_id (no_row id) rows differs;
    })

final : (said : Arguments) (rows : List Row) → Rows said rows → Final said (completed rows)
final said rows h =
    let events = completes (codes "events") refl said.events rows (h AtEvents) in
    let first = defaulted Events rows in
    let polls = completes (codes "polls") refl said.polls first (events.others (codes "polls") refl ∙ h AtPolls) in
    let second = defaulted Polls first in
    let large = completes (codes "large") refl said.large second
    (polls.others (codes "large") refl ∙ (events.others (codes "large") refl ∙ h AtLarge)) in
    record {
      flags = by_flag
          (ap (option_and_then row_text) (large.others (codes "events") refl ∙ polls.others (codes "events") refl) ∙ events.told)
          (ap (option_and_then row_text) (large.others (codes "polls") refl) ∙ polls.told) large.told;
      values = λ k a b c.
          first_is (id_of k) (text_said said k) (completed rows)
          (large.others (id_of k) c ∙ (polls.others (id_of k) b ∙ (events.others (id_of k) a ∙ h k)));
    }
  where
    by_flag : one_of (codes "events") (completed rows) ≡ Some (bool_text said.events)
        → one_of (codes "polls") (completed rows) ≡ Some (bool_text said.polls)
        → one_of (codes "large") (completed rows) ≡ Some (bool_text said.large)
        → (f : Flag) → one_of (id_of (slot_of f)) (completed rows) ≡ Some (bool_text (flag_said said f))
    by_flag e p l Events = e
    by_flag e p l Polls = p
    by_flag e p l Large = l

-- ---- the whole parse

-- the parser refuses the words, which are not accepted, or takes them and has what they said
pub data Agrees (words : List Text) : Type 0 where
  refuses : (fault_of parser words ≡ [] → ⊥) → accepted words ≡ None → Agrees words
  takes : (said : Arguments) → AtMostThree said → fault_of parser words ≡ [] → Final said (matches_of parser words)
      → accepted words ≡ command_of said → Agrees words

starts : Holds no_arguments nothing_held
starts = record { skip = refl; settles = refl; rows = none_yet }
  where
    none_yet : Rows no_arguments []
    none_yet AtEvents = refl
    none_yet AtPolls = refl
    none_yet AtLarge = refl
    none_yet k = refl

fault_is : (words : List Text)
    → fault_of parser words ≡ or_else (fault_at (at idle 1 false nothing_held) words)
    (or_else (settle_at (end_of (at idle 1 false nothing_held) words))
    (or_else (defaults_fault (rows_in (end_of (at idle 1 false nothing_held) words)) rules) []))
fault_is words = leaf_fault (built parser) nothing_held words refl

abbrev last : List Text → List Row
last words = rows_in (end_of (at idle 1 false nothing_held) words)

pub agrees : (words : List Text) → AllByRecursion IsUtf8 words → Agrees words
unfolding accepted
agrees words u = go ((both_read words u).0 no_arguments nothing_held starts (omega arith))
  where
    go : Ends (at idle 1 false nothing_held) words (said_from None no_arguments words) → Agrees words
    go (fails f none) =
        refuses (λ e. let all = sym (fault_is words) ∙ e in f (first_clear _ _ all) (first_clear _ _ (second_clear _ _ all))) none
    go (passes said none held few same) =
        takes said few
        (fault_is words ∙ clear _ _ none (clear _ _ held.settles (clear _ _ (defaults_clear (last words)) refl)))
        (subst (Final said) (sym (completed_is (last words))) (final said (last words) held.rows)) same
