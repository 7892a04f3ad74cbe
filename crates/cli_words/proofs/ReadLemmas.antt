-- The parser's walk over all the words says what the words say.
use Rattle.std.proofs.Common.{◌≡◌, ◌∙◌, ℕ, List, [], ◌∷◌, ◌++◌, ◌≤◌, Option, Some, None, refl, sym, ap, subst, true, false, cond, length}
use Rattle.std.proofs.Common.{arith, append-nil, append_assoc, length-append, suc}
use Rattle.std.proofs.lemmas.Bool.{or_right, lt-ltb}
use Rattle.std.specs.{Prelude.option_and_then, List.AllByRecursion, Str.IsUtf8}
use Rattle.clap.specs.Walk.{Held, Row, Rule, Walk, arg_by_long, idle, option, reacted, used, walked}
use Rattle.clap.specs.{Kinds.or_else, Faults.turn_fault, Faults.use_fault, Faults.walk_fault}
use Rattle.cli_words.specs.CommandWords.{Cycles, Events, Large, Ops, Polls, Positional, Slack}
use Rattle.cli_words.specs.{Key, Arguments, Text, Word, after_word, command_of, option_named, said_from, Flag, with_flag, with_option}
use Rattle.cli_words.specs.{with_positionals}
use Rattle.cli_words.proofs.RowLemmas.{Rows, rules, top}
use Rattle.cli_words.proofs.AcceptedLemmas.{given, doomed_none, doomed_stays, hyphen, hyphen_dooms}
use Rattle.cli_words.proofs.WalkSteps.{AtMostThree, Ends, fails, passes, Holds, Named, flag, keyed, unnamed, Placed, placed, stray, Used}
use Rattle.cli_words.proofs.WalkSteps.{repeated, unused, at, clear, first_clear, flag_at, flagging, named, placing, rows_in, rule_at}
use Rattle.cli_words.proofs.WalkSteps.{second_clear, settle_at, some_kind, step_fails, step_passes, using}
use Rattle.cli_words.proofs.WordLemmas.{IsPlain, ViewName, after_ends, as_plain, awaiting, after_end, between, dash, ends, has_flags}
use Rattle.cli_words.proofs.WordLemmas.{hyphen_plain, long, long_refused, long_turn, long_turn_is, long_walk, long_walk_is, long_word_of}
use Rattle.cli_words.proofs.WordLemmas.{name_in, own_value, short, short_refused, short_unknown, stuck_idle, stuck_trailing, turn_plain}
use Rattle.cli_words.proofs.WordLemmas.{turn_taken, view, waiting_for, walked_plain, walked_taken, with_word}
use Rattle.clap.specs.declared.error.kind.ErrorKind.TheVariants as kind

-- ---- after `--`

trails : (words : List Text) (said : Arguments) (h : Held) → Holds said h → AtMostThree said
    → Ends (after_end said h) words (Some (with_positionals words said))
unfolding walk_fault walked
trails [] said h holds few =
    passes said refl holds few
    (ap (λ ps. command_of (record said { positionals = ps })) (append-nil said.positionals))
trails (w ∷ ws) said h holds few =
    go (placing said.events said.polls said.large said.cycles said.ops said.slack true h w said.positionals holds few)
    (λ now. trails ws (with_positionals (w ∷ []) said) now)
  where
    go : Placed said true h w
        → ((now : Held) → Holds (with_positionals (w ∷ []) said) now → AtMostThree (with_positionals (w ∷ []) said)
        → Ends (at idle (suc (length (said.positionals ++ w ∷ []))) true now) ws
        (Some (with_positionals ws (with_positionals (w ∷ []) said))))
        → Ends (after_end said h) (w ∷ ws) (Some (with_positionals (w ∷ ws) said))
    go (stray bad many) ih =
        step_fails _ w ws _ bad
        (doomed_none (with_positionals (w ∷ ws) said)
        (or_right _ _ (lt-ltb 3 (length (said.positionals ++ w ∷ ws))
        (omega (arith, length-append said.positionals (w ∷ []), length-append said.positionals (w ∷ ws))))))
    go (placed now none is held few) ih =
        step_passes _ (at idle (suc (length (said.positionals ++ w ∷ []))) true now) w ws _ none is
        (subst (λ ps. Ends (at idle (suc (length (said.positionals ++ w ∷ []))) true now) ws
        (Some (record said { positionals = ps }))) (append_assoc said.positionals (w ∷ []) ws)
        (ih now held few))

-- ---- the words

abbrev Reads : List Text → Type 0
Reads words =
    (said : Arguments) (h : Held) → Holds said h → AtMostThree said
    → Ends (between said h) words (said_from None said words)

abbrev Awaits : List Text → Type 0
Awaits words =
    (key : Key) (said : Arguments) (rows : List Row) (skip : ℕ) → skip ≡ 0 → Rows said rows → AtMostThree said
    → Ends (awaiting key said rows skip) words (said_from (Some key) said words)

-- what is read after a word
abbrev rest_of : List Text → Option Key → Arguments → Option Arguments
rest_of rest waiting now = said_from waiting now rest

plain_step : (word : Text) (rest : List Text) (said : Arguments) (h : Held) → Holds said h → AtMostThree said
    → Reads rest → IsPlain word
    → Ends (between said h) (word ∷ rest) (after_word Positional word rest said (rest_of rest))
plain_step word rest said h holds few reads plain =
    go (placing said.events said.polls said.large said.cycles said.ops said.slack false h word said.positionals holds few)
  where
    p : ℕ
    p = suc (length said.positionals)

    go : Placed said false h word
        → Ends (between said h) (word ∷ rest) (after_word Positional word rest said (rest_of rest))
    go (stray bad many) =
        step_fails _ word rest _ (λ e. bad (sym (turn_plain _ word h plain) ∙ e))
        (doomed_stays rest None (with_positionals (word ∷ []) said) (or_right _ _ (lt-ltb _ _ many)))
    go (placed now none is held few) =
        step_passes _ (at idle (suc (length (said.positionals ++ word ∷ []))) false now) word rest _
        (turn_plain _ word h plain ∙ none) (walked_plain _ word h plain ∙ is)
        (reads (with_positionals (word ∷ []) said) now held few)

-- ---- a long word

-- what is said after an option is used, where the positionals stay
onward : (rest : List Text) (said : Arguments) → AtMostThree said → Reads rest → (now : Arguments) (x : Held)
    → now.positionals ≡ said.positionals → Holds now x
    → Ends (between said x) rest (said_from None now rest)
onward rest said few reads now x same held =
    subst (λ ps. Ends (at idle (suc (length ps)) false x) rest (said_from None now rest)) same
    (reads now x held (subst (λ ps. length ps ≤ 3) (sym same) few))

module _ (word : Text) (rest : List Text) (said : Arguments) (h : Held) (holds : Holds said h)
    (few : AtMostThree said) (reads : Reads rest) where
  abbrev p : ℕ
  p = suc (length said.positionals)

  abbrev here : Option Arguments → Type 0
  here o = Ends (at idle p false h) (word ∷ rest) o

  abbrev Turns : Option Rule → Option Text → Type 0
  Turns o v = turn_fault top [] (at idle p false h) word ≡ long_turn word p h o v

  abbrev Walks : Option Rule → Option Text → Type 0
  Walks o v = walked rules [] (at idle p false h) word ≡ long_walk word p h o v

  turned : (k : Key) (t : Text)
      → long_turn word p h (Some (rule_at k)) (Some t)
      ≡ or_else (or_else (settle_at h) (use_fault false (rule_at k) (t ∷ []) (rows_in h))) []
  turned Cycles t = refl
  turned Ops t = refl
  turned Slack t = refl

  -- an option that is used, by whatever it takes
  used_here : (a : Rule) (values : List Text) (next : Option Arguments) → Used a values next said (rows_in h)
      → turn_fault top [] (at idle p false h) word ≡ or_else (or_else (settle_at h) (use_fault false a values (rows_in h))) []
      → walked rules [] (at idle p false h) word ≡ at idle p false (reacted rules a values h)
      → here (option_and_then (rest_of rest None) next)
  used_here a values next (repeated bad none) turn is =
      step_fails _ word rest _ (λ e. bad (second_clear _ _ (first_clear _ _ (sym turn ∙ e))))
      (ap (λ o. given (option_and_then (rest_of rest None) o)) none)
  used_here a values next (unused now some none rows same) turn is =
      step_passes _ (between said (reacted rules a values h)) word rest _
      (turn ∙ clear _ _ (clear _ _ holds.settles none) refl) is
      (subst (λ o. Ends (between said (reacted rules a values h)) rest (option_and_then (rest_of rest None) o)) (sym some)
      (onward rest said few reads now (reacted rules a values h) same (record { skip = holds.skip; settles = refl; rows = rows })))

  went : (k : Key) (t : Text)
      → long_walk word p h (Some (rule_at k)) (Some t) ≡ at idle p false (reacted rules (rule_at k) (t ∷ []) h)
  went Cycles t = refl
  went Ops t = refl
  went Slack t = refl

  -- `--cycles=V`
  attached : (k : Key) (t : Text) → Turns (Some (rule_at k)) (Some t) → Walks (Some (rule_at k)) (Some t)
      → here (option_and_then (rest_of rest None) (with_option k t said))
  attached k t turn is =
      used_here (rule_at k) (t ∷ []) _ (using k t said (rows_in h) holds.rows) (turn ∙ turned k t) (is ∙ went k t)

  -- `--events`, `--polls` or `--large`
  flagged : (f : Flag) → Turns (Some (flag_at f)) None → Walks (Some (flag_at f)) None
      → here (option_and_then (rest_of rest None) (with_flag f said))
  flagged Events turn is = used_here (flag_at Events) [] _ (flagging Events said (rows_in h) holds.rows) turn is
  flagged Polls turn is = used_here (flag_at Polls) [] _ (flagging Polls said (rows_in h) holds.rows) turn is
  flagged Large turn is = used_here (flag_at Large) [] _ (flagging Large said (rows_in h) holds.rows) turn is

  -- with a value it is refused
  valued : (f : Flag) (t : Text) → Turns (Some (flag_at f)) (Some t) → turn_fault top [] (at idle p false h) word ≡ [] → ⊥
  valued Events t turn e = some_kind kind.TooManyValues [] (sym turn ∙ e)
  valued Polls t turn e = some_kind kind.TooManyValues [] (sym turn ∙ e)
  valued Large t turn e = some_kind kind.TooManyValues [] (sym turn ∙ e)

  -- `--cycles`
  apart : Awaits rest → (k : Key) → Turns (Some (rule_at k)) None → Walks (Some (rule_at k)) None
      → here (said_from (Some k) said rest)
  apart awaits Cycles turn is =
      step_passes _
      (at (option (rule_at Cycles).id) p false (waiting_for Cycles (rows_in h) h.skip)) word rest _
      (turn ∙ clear _ _ holds.settles refl) is
      (awaits Cycles said (rows_in h) h.skip holds.skip holds.rows few)
  apart awaits Ops turn is =
      step_passes _ (at (option (rule_at Ops).id) p false (waiting_for Ops (rows_in h) h.skip)) word rest _
      (turn ∙ clear _ _ holds.settles refl) is
      (awaits Ops said (rows_in h) h.skip holds.skip holds.rows few)
  apart awaits Slack turn is =
      step_passes _ (at (option (rule_at Slack).id) p false (waiting_for Slack (rows_in h) h.skip)) word rest _
      (turn ∙ clear _ _ holds.settles refl) is
      (awaits Slack said (rows_in h) h.skip holds.skip holds.rows few)

  long_step : Awaits rest → (v : Option Text) (o : Option Rule) (w : Word) → Named v o w → Turns o v → Walks o v
      → here (after_word w word rest said (rest_of rest))
  long_step awaits None o w (flag f eo ew) turn is =
      subst (λ x. here (after_word x word rest said (rest_of rest))) (sym ew)
      (flagged f (subst (λ x. Turns x None) eo turn) (subst (λ x. Walks x None) eo is))
  long_step awaits (Some t) o w (flag f eo ew) turn is =
      step_fails _ word rest _ (valued f t (subst (λ x. Turns x (Some t)) eo turn))
      (ap (λ x. given (after_word x word rest said (rest_of rest))) ew)
  long_step awaits None o w (keyed k eo ew) turn is =
      subst (λ x. here (after_word x word rest said (rest_of rest))) (sym ew)
      (apart awaits k (subst (λ x. Turns x None) eo turn) (subst (λ x. Walks x None) eo is))
  long_step awaits (Some t) o w (keyed k eo ew) turn is =
      subst (λ x. here (after_word x word rest said (rest_of rest))) (sym ew)
      (attached k t (subst (λ x. Turns x (Some t)) eo turn) (subst (λ x. Walks x (Some t)) eo is))
  long_step awaits v o w (unnamed eo ew) turn is =
      step_fails _ word rest _
      (λ e. some_kind kind.UnknownArgument [] (sym (subst (λ x. Turns x v) eo turn) ∙ e))
      (ap (λ x. given (after_word x word rest said (rest_of rest))) ew)

-- `--`
end_step : (rest : List Text) (said : Arguments) (h : Held) → Holds said h → AtMostThree said
    → Ends (between said h) ((45 ∷ 45 ∷ []) ∷ rest) (said_from None said ((45 ∷ 45 ∷ []) ∷ rest))
unfolding walked
end_step rest said h holds few =
    step_passes _ (after_end said h) (45 ∷ 45 ∷ []) rest _ refl refl (trails rest said h holds few)

-- a word where nothing waits
read_word : (word : Text) (rest : List Text) → IsUtf8 word → ViewName word → Reads rest → Awaits rest
    → Reads (word ∷ rest)
read_word _ rest u (as_plain word b is) reads awaits said h holds few =
    subst (λ w. Ends (between said h) (word ∷ rest) (after_word w word rest said (rest_of rest))) (sym is.kind)
    (plain_step word rest said h holds few reads is)
read_word word rest u dash reads awaits said h holds few = plain_step hyphen rest said h holds few reads hyphen_plain
read_word word rest u ends reads awaits said h holds few = end_step rest said h holds few
read_word word rest u (long x xs) reads awaits said h holds few =
    subst (λ w. Ends (between said h) ((45 ∷ 45 ∷ x ∷ xs) ∷ rest)
    (after_word w (45 ∷ 45 ∷ x ∷ xs) rest said (rest_of rest))) (sym (long_word_of x xs))
    (long_step (45 ∷ 45 ∷ x ∷ xs) rest said h holds few reads awaits (own_value x xs)
    (arg_by_long rules (name_in x xs)) (option_named (45 ∷ 45 ∷ name_in x xs) (own_value x xs))
    (named (name_in x xs) (own_value x xs)) (long_turn_is x xs (suc (length said.positionals)) h)
    (long_walk_is x xs (suc (length said.positionals)) h))
read_word word rest u (short y ys ne) reads awaits said h holds few =
    step_fails _ (45 ∷ y ∷ ys) rest _
    (short_refused y ys ne idle _ h (has_flags y ys u) holds.skip)
    (ap (λ w. given (after_word w (45 ∷ y ∷ ys) rest said (rest_of rest))) (short_unknown y ys ne))

-- what is said gives no command either way
refused_anyway : (w : Walk) (rest : List Text) (o : Option Arguments) → given o ≡ None → Ends w rest o
    → Ends w rest None
refused_anyway w rest o none (fails f n) = fails f refl
refused_anyway w rest o none (passes t e held few same) = passes t e held few (sym none ∙ same)

settled_value : (k : Key) (word : Text) (rows : List Row) (skip : ℕ)
    → settle_at (with_word k word rows skip) ≡ use_fault false (rule_at k) (word ∷ []) rows
settled_value Cycles word rows skip = refl
settled_value Ops word rows skip = refl
settled_value Slack word rows skip = refl

settled_rows_are : (k : Key) (word : Text) (rows : List Row) (skip : ℕ)
    → rows_in (with_word k word rows skip) ≡ used (rule_at k) (word ∷ []) rows
settled_rows_are Cycles word rows skip = refl
settled_rows_are Ops word rows skip = refl
settled_rows_are Slack word rows skip = refl

module _ (word : Text) (rest : List Text) (u : AllByRecursion IsUtf8 rest) (k : Key) (said : Arguments)
    (rows : List Row) (skip : ℕ) (zero_skip : skip ≡ 0) (said_rows : Rows said rows)
    (few : AtMostThree said) (reads : Reads rest) where
  abbrev now_at : Held → Walk
  now_at x = between said x

  -- where the option takes the word, and the rest is read
  taken_rest : Ends (now_at (with_word k word rows skip)) rest (option_and_then (rest_of rest None) (with_option k word said))
  taken_rest = go (using k word said rows said_rows)
    where
      go : Used (rule_at k) (word ∷ []) (with_option k word said) said rows
          → Ends (now_at (with_word k word rows skip)) rest (option_and_then (rest_of rest None) (with_option k word said))
      go (repeated bad none) =
          fails (stuck_idle _ (with_word k word rows skip) (λ e. bad (sym (settled_value k word rows skip) ∙ e)) zero_skip rest u)
          (ap (λ o. given (option_and_then (rest_of rest None) o)) none)
      go (unused now some none now_rows same) =
          subst (λ o. Ends (now_at (with_word k word rows skip)) rest (option_and_then (rest_of rest None) o))
          (sym some)
          (onward rest said few reads now (with_word k word rows skip) same
          (record {
            skip = zero_skip;
            settles = settled_value k word rows skip ∙ none;
            rows = subst (Rows now) (sym (settled_rows_are k word rows skip)) now_rows;
          }))

  taken_dash : word ≡ hyphen → Ends (now_at (with_word k word rows skip)) rest None
  taken_dash e = refused_anyway _ rest _ (doomed (with_option k word said) refl) taken_rest
    where
      doomed : (o : Option Arguments) → with_option k word said ≡ o
          → given (option_and_then (rest_of rest None) o) ≡ None
      doomed None f = refl
      doomed (Some now) f =
          doomed_stays rest None now (hyphen_dooms k said now (sym (ap (λ w. with_option k w said) e) ∙ f))

  taken : (o : Option Arguments) → IsPlain word → Ends (now_at (with_word k word rows skip)) rest o
      → Ends (awaiting k said rows skip) (word ∷ rest) o
  taken o is after =
      step_passes _ (now_at (with_word k word rows skip)) word rest o (turn_taken k _ word rows skip is)
      (walked_taken k _ word rows skip is) after

-- an option that waits has no value
no_value : (k : Key) (rows : List Row) (skip : ℕ) → settle_at (waiting_for k rows skip) ≡ [] → ⊥
no_value Cycles rows skip e = some_kind _ _ e
no_value Ops rows skip e = some_kind _ _ e
no_value Slack rows skip e = some_kind _ _ e

await_word : (word : Text) (rest : List Text) → IsUtf8 word → AllByRecursion IsUtf8 rest → ViewName word
    → Reads rest → Awaits (word ∷ rest)
await_word _ rest u us (as_plain word b is) reads k said rows skip zero_skip said_rows few =
    subst (λ x. Ends (awaiting k said rows skip) (word ∷ rest)
    (cond x None (option_and_then (rest_of rest None) (with_option k word said)))) (sym b)
    (taken word rest us k said rows skip zero_skip said_rows few reads _ is
    (taken_rest word rest us k said rows skip zero_skip said_rows few reads))
await_word word rest u us dash reads k said rows skip zero_skip said_rows few =
    taken hyphen rest us k said rows skip zero_skip said_rows few reads None hyphen_plain
    (taken_dash hyphen rest us k said rows skip zero_skip said_rows few reads refl)
await_word word rest u us ends reads k said rows skip zero_skip said_rows few =
    fails (after_ends (option (rule_at k).id) _ _ refl rest (stuck_trailing _ _ _ (no_value k rows skip) rest)) refl
await_word word rest u us (long x xs) reads k said rows skip zero_skip said_rows few =
    step_fails _ (45 ∷ 45 ∷ x ∷ xs) rest None
    (long_refused (option (rule_at k).id) x xs (suc (length said.positionals)) (waiting_for k rows skip) (no_value k rows skip)) refl
await_word word rest u us (short y ys ne) reads k said rows skip zero_skip said_rows few =
    step_fails _ (45 ∷ y ∷ ys) rest None
    (short_refused y ys ne (option (rule_at k).id) _ _ (has_flags y ys u) zero_skip) refl

pub both_read : (words : List Text) → AllByRecursion IsUtf8 words → Reads words × Awaits words
unfolding walk_fault
both_read [] u = (
  λ said h holds few. passes said refl holds few refl,
  λ k said rows skip zero_skip said_rows few. fails (λ e s. no_value k rows skip s) refl,
)
both_read (word ∷ rest) u =
    let ih = both_read rest u.1 in
    (read_word word rest u.0 (view word) ih.0 ih.1, await_word word rest u.0 u.1 (view word) ih.0)
