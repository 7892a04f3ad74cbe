-- What can give no command, whatever words follow.
use Rattle.std.proofs.Common.{◌≡◌, List, [], ◌∷◌, ◌&&◌, ◌||◌, Option, Some, None, refl, true, false, subst, Bool, cond, length, arith}
use Rattle.std.proofs.Common.{length-append, is_some}
use Rattle.std.proofs.lemmas.Bool.Decides.{nat_tests}
use Rattle.std.specs.Prelude.{ℕ, ◌^◌, option_and_then, nat_lt, not, Result, Ok, Err}
use Rattle.cli_words.specs.{limits_at, number_written, NumberFault, Command, CommandName, Key, Arguments, Text, Word, after_word}
use Rattle.cli_words.specs.{command_by, command_named, command_of, limit_in, name_of, said_from, scale_of, slack_in, with_option}
use Rattle.cli_words.specs.{with_positionals, meaning_of}
use Rattle.cli_words.specs.CommandWords.{Cycles, Ops, Slack, End, Events, Polls, Large, Lone, Takes, Has, Positional, Unknown}
use Rattle.cli_words.specs.declared.rules.CommandName.TheVariants as name

-- the digits write a number
abbrev is_written : Result ℕ NumberFault → Bool
is_written (Ok n) = true
is_written (Err fault) = false

-- the value is a number, if one is given
abbrev is_number : Option Text → Bool
is_number None = true
is_number (Some text) = is_written (number_written text)

-- the values of the options are numbers, in bounds or not
abbrev pub has_values : Arguments → Bool
has_values said = is_number said.cycles && (is_number said.ops && is_number said.slack)

-- they are none, or there are more than three positionals
abbrev pub is_doomed : Arguments → Bool
is_doomed said = not (has_values said) || nat_lt 3 (length said.positionals)

abbrev pub given : Option Arguments → Option Command
given = option_and_then command_of

no_limit : (high : ℕ) (value : Option Text) → is_number value ≡ false → limit_in high value ≡ None
no_limit high value bad = grind arith

no_slack : (value : Option Text) → is_number value ≡ false → slack_in value ≡ None
no_slack value bad = grind arith

-- no command takes options whose values are no numbers
options_fail : (said : Arguments) (rest : List Text) → has_values said ≡ false → (n : CommandName) → command_named said rest n ≡ None
options_fail said rest bad n =
    let cycles = no_limit (10 ^ 15) said.cycles in
    let ops = no_limit (limits_at (scale_of said)).counted_operations said.ops in
    let slack = no_slack said.slack in
    by n cycles ops slack
  where
    by : (n : CommandName) → (is_number said.cycles ≡ false → limit_in (10 ^ 15) said.cycles ≡ None)
        → (is_number said.ops ≡ false → limit_in (limits_at (scale_of said)).counted_operations said.ops ≡ None)
        → (is_number said.slack ≡ false → slack_in said.slack ≡ None) → command_named said rest n ≡ None
    by name.Check cycles ops slack = grind arith
    by n cycles ops slack = grind arith

-- no command has three further positionals
many_fail : (said : Arguments) (b c d : Text) (rest : List Text) (n : CommandName) → command_named said (b ∷ c ∷ d ∷ rest) n ≡ None
many_fail said b c d rest name.Check = grind arith
many_fail said b c d rest n = grind arith

named_none : (said : Arguments) (rest : List Text) → not (has_values said) || nat_lt 2 (length rest) ≡ true
    → (n : CommandName) → command_named said rest n ≡ None
named_none said (b ∷ c ∷ d ∷ rest) h n = many_fail said b c d rest n
named_none said rest h n = options_fail said rest (grind (arith, nat_tests)) n

pub doomed_none : (said : Arguments) → is_doomed said ≡ true → command_of said ≡ None
doomed_none said d = by said.positionals d
  where
    by_name : (rest : List Text) (o : Option CommandName) → ((n : CommandName) → command_named said rest n ≡ None)
        → option_and_then (command_named said rest) o ≡ None
    by_name rest None none = refl
    by_name rest (Some n) none = none n

    by : (ps : List Text) → not (has_values said) || nat_lt 3 (length ps) ≡ true → command_by said ps ≡ None
    by [] h = refl
    by (word ∷ rest) h = by_name rest (name_of word) (named_none said rest (grind (arith, nat_tests)))

-- whatever follows, what is doomed gives no command
pub doomed_stays : (words : List Text) (waiting : Option Key) (said : Arguments) → is_doomed said ≡ true
    → given (said_from waiting said words) ≡ None
doomed_stays [] None said d = doomed_none said d
doomed_stays [] (Some key) said d = refl
doomed_stays (word ∷ rest) None said d = by (meaning_of word) (doomed_stays rest)
  where
    by : (w : Word) → ((waiting : Option Key) (now : Arguments) → is_doomed now ≡ true → given (said_from waiting now rest) ≡ None)
        → given (after_word w word rest said (λ waiting now. said_from waiting now rest)) ≡ None
    by End stays = doomed_none (with_positionals rest said) (grind (arith, nat_tests, length-append said.positionals rest))
    by (Lone Events) stays = let used = stays None (record said { events = true }) (grind arith) in grind arith
    by (Lone Polls) stays = let used = stays None (record said { polls = true }) (grind arith) in grind arith
    by (Lone Large) stays = let used = stays None (record said { large = true }) (grind arith) in grind arith
    by (Takes key) stays = stays (Some key) said d
    by (Has Cycles value) stays = let used = stays None (record said { cycles = Some value }) in grind arith
    by (Has Ops value) stays = let used = stays None (record said { ops = Some value }) in grind arith
    by (Has Slack value) stays = let used = stays None (record said { slack = Some value }) in grind arith
    by Positional stays =
        stays None (with_positionals (word ∷ []) said) (grind (arith, nat_tests, length-append said.positionals (word ∷ [])))
    by Unknown stays = refl
doomed_stays (value ∷ rest) (Some Cycles) said d =
    let used = doomed_stays rest None (record said { cycles = Some value }) in grind arith
doomed_stays (value ∷ rest) (Some Ops) said d =
    let used = doomed_stays rest None (record said { ops = Some value }) in grind arith
doomed_stays (value ∷ rest) (Some Slack) said d =
    let used = doomed_stays rest None (record said { slack = Some value }) in grind arith

-- a hyphen alone
abbrev pub hyphen : Text
hyphen = 45 ∷ []

-- as the value of an option it makes what is said one that can give no command
pub hyphen_dooms : (k : Key) (said now : Arguments) → with_option k hyphen said ≡ Some now → is_doomed now ≡ true
hyphen_dooms k said now e = by k e
  where
    taken : (b : Bool) (next : Arguments) → cond b None (Some next) ≡ Some now → is_doomed next ≡ true → is_doomed now ≡ true
    taken true next q d = absurd cc
    taken false next q d = let same : next ≡ now = cc in subst (λ (x : Arguments). is_doomed x ≡ true) same d

    by : (k : Key) → with_option k hyphen said ≡ Some now → is_doomed now ≡ true
    by Cycles q = taken (is_some said.cycles) _ q refl
    by Ops q = taken (is_some said.ops) _ q (grind arith)
    by Slack q = taken (is_some said.slack) _ q (grind arith)
