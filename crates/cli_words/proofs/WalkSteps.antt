-- One word of the parser's walk.
use Rattle.std.proofs.Common.{◌≡◌, ◌∙◌, ℕ, List, [], ◌∷◌, ◌++◌, ◌<◌, ◌≤◌, ◌&&◌, ◌||◌, Option, Some, None, refl, sym, ap, ap₂, subst, codes}
use Rattle.std.proofs.Common.{true, false, Bool, cond, length, arith, fold, suc, is_some}
use Rattle.std.specs.Str.{bytes_eq}
use Rattle.clap.specs.Walk.{Held, Rule, Row, Waiting, Walk, arg_by_index, arg_by_long, idle, is_pending, positional_held, pushed, settled}
use Rattle.clap.specs.Walk.{settled_rows, takes_several, to_positional, used, value, walked, has_row, with_values, without}
use Rattle.clap.specs.{declared.builder.value_parser.Reading.TheVariants.AsWritten, Simple.filled, Simple.new_rule, Simple.with_index}
use Rattle.clap.specs.{Kinds.Kinds, Kinds.or_else, declared.error.kind.ErrorKind.ErrorKind}
use Rattle.clap.specs.declared.parser.matches.ValueSource.TheVariants.{CommandLine}
use Rattle.clap.specs.Faults.{positional_fault, settle_fault, step_fault, turn_fault, use_fault, walk_fault}
use Rattle.cli_words.specs.{cycles_rule, events_rule, large_rule, ops_rule, polls_rule, slack_rule, Flag, Key, Arguments, Text, Word}
use Rattle.cli_words.specs.{command_of, option_named, with_flag, with_option, with_positionals, taking_value, without_value}
use Rattle.cli_words.specs.CommandWords.{Cycles, Events, Large, Ops, Polls, Slack, Unknown}
use Rattle.cli_words.proofs.RowLemmas.{AtCommand, AtCycles, AtEvents, AtLarge, AtOps, AtPolls, AtSecond, AtSlack, AtThird, Rows, added}
use Rattle.cli_words.proofs.RowLemmas.{cycles_same, events_same, large_same, polls_same, first_same, has_row-row_at, having as said_with}
use Rattle.cli_words.proofs.RowLemmas.{ops_same, row_at, rows_more, rules, second_same, slack_same, SameBut, Slot, id_of, row, text_said}
use Rattle.cli_words.proofs.RowLemmas.{third_same, top, value_row}
use Rattle.cli_words.proofs.AcceptedLemmas.{given}
use Rattle.clap.specs.declared.error.kind.ErrorKind.TheVariants as kind

-- ---- kinds of fault

pub some_kind : (k : ErrorKind) (ks : Kinds) → k ∷ ks ≡ [] → ⊥
some_kind k ks e = cc

pub first_clear : (a b : Kinds) → or_else a b ≡ [] → a ≡ []
first_clear a b e = grind arith

pub second_clear : (a b : Kinds) → or_else a b ≡ [] → b ≡ []
second_clear a b e = grind arith

pub clear : (a b : Kinds) → a ≡ [] → b ≡ [] → or_else a b ≡ []
clear a b e f = ap (λ x. or_else x b) e ∙ f

-- ---- where the walk stands

abbrev pub at : Waiting → ℕ → Bool → Held → Walk
at waiting position is_trailing h = record {
  held = h;
  waiting = waiting;
  position = position;
  is_trailing = is_trailing;
  stopped = None;
}

abbrev pub end_of : Walk → List Text → Held
end_of w words = (fold (walked rules []) w words).held

abbrev pub fault_at : Walk → List Text → Kinds
fault_at w words = walk_fault top [] w words

abbrev pub settle_at : Held → Kinds
settle_at h = settle_fault rules false h

-- the parser refuses the words
abbrev pub Fails : Walk → List Text → Type 0
Fails w words = fault_at w words ≡ [] → settle_at (end_of w words) ≡ [] → ⊥

-- what is held is what was said
pub record Holds (said : Arguments) (h : Held) : Type 0 where
  pub skip : h.skip ≡ 0
  pub settles : settle_at h ≡ []
  pub rows : Rows said (settled_rows rules h.pending h.rows)

abbrev pub AtMostThree : Arguments → Type 0
AtMostThree said = length said.positionals ≤ 3

-- the parser refuses the words, which give no command, or takes them for what they said
pub data Ends (w : Walk) (words : List Text) (o : Option Arguments) : Type 0 where
  fails : Fails w words → given o ≡ None → Ends w words o
  passes : (t : Arguments) → fault_at w words ≡ [] → Holds t (end_of w words) → AtMostThree t
      → given o ≡ command_of t → Ends w words o

passes_on : (w : Walk) (word : Text) (rest : List Text) (o : Option Arguments) → turn_fault top [] w word ≡ []
    → Ends (walked rules [] w word) rest o → Ends w (word ∷ rest) o
unfolding walk_fault
passes_on w word rest o turn (fails f none) = fails (λ e settled. f (second_clear _ _ e) settled) none
passes_on w word rest o turn (passes t e holds few same) = passes t (clear _ _ turn e) holds few same

pub step_passes : (w after : Walk) (word : Text) (rest : List Text) (o : Option Arguments)
    → turn_fault top [] w word ≡ [] → walked rules [] w word ≡ after
    → Ends after rest o → Ends w (word ∷ rest) o
step_passes w after word rest o turn is h = passes_on w word rest o turn (subst (λ y. Ends y rest o) (sym is) h)

pub step_fails : (w : Walk) (word : Text) (rest : List Text) (o : Option Arguments)
    → (turn_fault top [] w word ≡ [] → ⊥) → given o ≡ None → Ends w (word ∷ rest) o
unfolding walk_fault
step_fails w word rest o bad none = fails (λ e settled. bad (first_clear _ _ e)) none

-- ---- uses

has_no : (id : Text) (rows : List Row) (o : Option Row) → row_at id rows ≡ o → has_row id rows ≡ is_some o
has_no id rows o e = has_row-row_at id rows ∙ ap is_some e

abbrev pub flag_at : Flag → Rule
flag_at Events = filled events_rule
flag_at Polls = filled polls_rule
flag_at Large = filled large_rule

abbrev pub rule_at : Key → Rule
rule_at Cycles = filled cycles_rule
rule_at Ops = filled ops_rule
rule_at Slack = filled slack_rule

-- what a long name comes to, on both sides
pub data Named (v : Option Text) (o : Option Rule) (w : Word) : Type 0 where
  flag : (f : Flag) → o ≡ Some (flag_at f) → w ≡ without_value f v → Named v o w
  keyed : (k : Key) → o ≡ Some (rule_at k) → w ≡ taking_value k v → Named v o w
  unnamed : o ≡ None → w ≡ Unknown → Named v o w

pub named : (n : Text) (v : Option Text) → Named v (arg_by_long rules n) (option_named (45 ∷ 45 ∷ n) v)
named n v = go (bytes_eq (codes "events") n) (bytes_eq (codes "polls") n) (bytes_eq (codes "large") n) (bytes_eq (codes "cycles") n)
    (bytes_eq (codes "ops") n) (bytes_eq (codes "slack") n)
  where
    go : (a p l b c d : Bool)
        → Named v (cond (a || false) (Some (flag_at Events)) (cond (p || false) (Some (flag_at Polls))
        (cond (l || false) (Some (flag_at Large)) (cond (b || false) (Some (rule_at Cycles)) (cond (c || false) (Some (rule_at Ops))
        (cond (d || false) (Some (rule_at Slack)) None))))))
        (cond a (without_value Events v) (cond p (without_value Polls v) (cond l (without_value Large v) (cond b (taking_value Cycles v)
        (cond c (taking_value Ops v) (cond d (taking_value Slack v) Unknown))))))
    go true p l b c d = flag Events refl refl
    go false true l b c d = flag Polls refl refl
    go false false true b c d = flag Large refl refl
    go false false false true c d = keyed Cycles refl refl
    go false false false false true d = keyed Ops refl refl
    go false false false false false true = keyed Slack refl refl
    go false false false false false false = unnamed refl refl

abbrev pub rows_in : Held → List Row
rows_in h = settled_rows rules h.pending h.rows

-- an option with its value, used where the rows are these
-- what gives `next` is used over these rows, where it was not given yet
pub data Used (a : Rule) (values : List Text) (next : Option Arguments) (said : Arguments) (rows : List Row) : Type 0 where
  repeated : (use_fault false a values rows ≡ [] → ⊥) → next ≡ None → Used a values next said rows
  unused : (now : Arguments) → next ≡ Some now → use_fault false a values rows ≡ [] → Rows now (used a values rows)
      → now.positionals ≡ said.positionals → Used a values next said rows

used_at : (a : Rule) (values : List Text) (k : Slot) (v : Text) (said now : Arguments) (rows : List Row) → Rows said rows
    → SameBut k said now → text_said now k ≡ Some v → now.positionals ≡ said.positionals
    → use_fault false a values rows ≡ cond (has_row (id_of k) rows) (kind.ArgumentConflict ∷ []) []
    → used a values rows ≡ with_values (id_of k) AsWritten CommandLine (v ∷ []) (without (id_of k) rows)
    → Used a values (cond (is_some (text_said said k)) None (Some now)) said rows
used_at a values k v said now rows h same some positionals fault_is rows_are = go (text_said said k) refl
  where
    go : (o : Option Text) → text_said said k ≡ o → Used a values (cond (is_some o) None (Some now)) said rows
    go (Some x) e =
        let has = has_no (id_of k) rows (Some (row (id_of k) x)) (h k ∙ ap (value_row (id_of k)) e) in
        repeated (λ none. absurd (grind arith)) refl
    go None e =
        let absent = has_no (id_of k) rows None (h k ∙ ap (value_row (id_of k)) e) in
        unused now refl (grind arith)
        (subst (Rows now) (sym (rows_are ∙ added (id_of k) v rows (h k ∙ ap (value_row (id_of k)) e)))
        (rows_more k v said now rows h e some same)) positionals

pub using : (k : Key) (v : Text) (said : Arguments) (rows : List Row) → Rows said rows
    → Used (rule_at k) (v ∷ []) (with_option k v said) said rows
using Cycles v said rows h =
    used_at (rule_at Cycles) (v ∷ []) AtCycles v said (record said { cycles = Some v }) rows h (cycles_same said v) refl refl
    (grind arith) refl
using Ops v said rows h =
    used_at (rule_at Ops) (v ∷ []) AtOps v said (record said { ops = Some v }) rows h (ops_same said v) refl refl (grind arith) refl
using Slack v said rows h =
    used_at (rule_at Slack) (v ∷ []) AtSlack v said (record said { slack = Some v }) rows h (slack_same said v) refl refl
    (grind arith) refl

-- a flag that was said already is not said again
once : (b : Bool) (now : Arguments) → cond (is_some (cond b (Some (codes "true")) None)) None (Some now) ≡ cond b None (Some now)
once true now = refl
once false now = refl

pub flagging : (f : Flag) (said : Arguments) (rows : List Row) → Rows said rows → Used (flag_at f) [] (with_flag f said) said rows
flagging Events said rows h =
    let now : Arguments = record said { events = true } in
    subst (λ (o : Option Arguments). Used (flag_at Events) [] o said rows) (once said.events now)
    (used_at (flag_at Events) [] AtEvents (codes "true") said now rows h (events_same said) refl refl (grind arith) refl)
flagging Polls said rows h =
    let now : Arguments = record said { polls = true } in
    subst (λ (o : Option Arguments). Used (flag_at Polls) [] o said rows) (once said.polls now)
    (used_at (flag_at Polls) [] AtPolls (codes "true") said now rows h (polls_same said) refl refl (grind arith) refl)
flagging Large said rows h =
    let now : Arguments = record said { large = true } in
    subst (λ (o : Option Arguments). Used (flag_at Large) [] o said rows) (once said.large now)
    (used_at (flag_at Large) [] AtLarge (codes "true") said now rows h (large_same said) refl refl (grind arith) refl)

-- ---- positionals

-- a word that goes to the next positional, where there is one
pub data Placed (said : Arguments) (is_trailing : Bool) (h : Held) (word : Text) : Type 0 where
  stray : (step_fault top (suc (length said.positionals)) h value ≡ [] → ⊥)
      → 3 < length (said.positionals ++ word ∷ []) → Placed said is_trailing h word
  placed : (now : Held) → step_fault top (suc (length said.positionals)) h value ≡ []
      → to_positional rules (arg_by_index rules (suc (length said.positionals))) word
      (at idle (suc (length said.positionals)) is_trailing h) h
      ≡ at idle (suc (length (said.positionals ++ word ∷ []))) is_trailing now
      → Holds (with_positionals (word ∷ []) said) now → length (said.positionals ++ word ∷ []) ≤ 3
      → Placed said is_trailing h word

pub or_false : (b : Bool) → (b || false) ≡ b
or_false true = refl
or_false false = refl

pub and_false : (b : Bool) → (b && false) ≡ false
and_false true = refl
and_false false = refl

-- the positional waits to be used, over the rows of what came before
abbrev pub holding : Rule → Text → Held → Held
holding a word h = record { rows = rows_in h; pending = Some (a.id, word ∷ []); skip = h.skip }

-- what takes the word as the argument a
abbrev taking : Rule → Text → Held → Bool → Held
taking a word h b = pushed a.id word (cond b h (settled rules h))

holding_is : (a : Rule) (word : Text) (h : Held) → takes_several a ≡ false
    → positional_held rules a word h ≡ holding a word h
holding_is a word h one =
    ap (λ b. taking a word h (is_pending a h.pending && b)) one
    ∙ ap (taking a word h) (and_false (is_pending a h.pending))

fault_is : (a : Rule) (h : Held) → takes_several a ≡ false → settle_at h ≡ []
    → positional_fault rules false a h ≡ []
fault_is a h one e =
    ap (λ b. cond (is_pending a h.pending && b) [] (settle_at h)) one
    ∙ ap (λ b. cond b [] (settle_at h)) (and_false (is_pending a h.pending)) ∙ e

abbrev pub slot : ℕ → Text → Rule
slot i id = with_index i (filled (new_rule id))

slot_passes : (id : Text) (i : ℕ) (word : Text) (rows : List Row) → has_row id rows ≡ false
    → use_fault false (slot i id) (word ∷ []) rows ≡ []
slot_passes id i word rows e = ap (λ b. or_else (cond (b && true) (kind.ArgumentConflict ∷ []) []) []) e

module _ (events polls large : Bool) (cycles ops slack : Option Text) (t : Bool) (h : Held) (word : Text) where
  abbrev having : List Text → Arguments
  having ps = said_with events polls large cycles ops slack ps

  -- the word is held for a slot for which nothing was said
  held : (k : Slot) (i : ℕ) (said now : Arguments) → Holds said h → text_said said k ≡ None → text_said now k ≡ Some word
      → SameBut k said now
      → settle_at (holding (slot i (id_of k)) word h) ≡ use_fault false (slot i (id_of k)) (word ∷ []) (rows_in h)
      → rows_in (holding (slot i (id_of k)) word h)
      ≡ with_values (id_of k) AsWritten CommandLine (word ∷ []) (without (id_of k) (rows_in h))
      → Holds now (holding (slot i (id_of k)) word h)
  held k i said now holds none some same settled_is rows_are =
      let no_row : row_at (id_of k) (rows_in h) ≡ None = holds.rows k ∙ ap (value_row (id_of k)) none in
      record {
        skip = holds.skip;
        settles = settled_is ∙ slot_passes (id_of k) i word (rows_in h) (has_no (id_of k) (rows_in h) _ no_row);
        rows =
            subst (Rows now) (sym (rows_are ∙ added (id_of k) word (rows_in h) no_row))
            (rows_more k word said now (rows_in h) holds.rows none some same);
      }

  pub placing : (ps : List Text) → Holds (having ps) h → length ps ≤ 3 → Placed (having ps) t h word
  placing [] holds few =
      placed (holding (slot 1 (codes "command")) word h) (fault_is (slot 1 (codes "command")) h refl holds.settles)
      (ap₂ (λ (b : Bool) (x : Held). at idle 2 b x) (or_false t) (holding_is (slot 1 (codes "command")) word h refl))
      (held AtCommand 1 (having []) (having (word ∷ [])) holds refl refl (first_same events polls large cycles ops slack word) refl refl)
      (omega arith)
  placing (a ∷ []) holds few =
      placed (holding (slot 2 (codes "second")) word h) (fault_is (slot 2 (codes "second")) h refl holds.settles)
      (ap₂ (λ (b : Bool) (x : Held). at idle 3 b x) (or_false t) (holding_is (slot 2 (codes "second")) word h refl))
      (held AtSecond 2 (having (a ∷ [])) (having (a ∷ word ∷ [])) holds refl refl
      (second_same events polls large cycles ops slack a word) refl refl)
      (omega arith)
  placing (a ∷ b ∷ []) holds few =
      placed (holding (slot 3 (codes "third")) word h) (fault_is (slot 3 (codes "third")) h refl holds.settles)
      (ap₂ (λ (b : Bool) (x : Held). at idle 4 b x) (or_false t) (holding_is (slot 3 (codes "third")) word h refl))
      (held AtThird 3 (having (a ∷ b ∷ [])) (having (a ∷ b ∷ word ∷ [])) holds refl refl
      (third_same events polls large cycles ops slack a b word) refl refl)
      (omega arith)
  placing (a ∷ b ∷ c ∷ []) holds few = stray (λ e. some_kind _ _ e) (omega arith)
  placing (a ∷ b ∷ c ∷ d ∷ rest) holds few = absurd (omega arith)
