-- Which lists of words are accepted, and the command that each of them is.
use Rattle.std.specs.Prelude.{◌≤◌, ◌==◌, ◌&&◌, ◌||◌, ◌^◌, ◌++◌, ◌∷◌, ℕ, Bool, true, false, not, List, [], Option, Some, None, Result, Ok}
use Rattle.std.specs.Prelude.{Err, codes, if◌then◌else◌, IfSome, is_some, nat_le, option_and_then, option_map}
use Rattle.std.specs.{List.after_first, List.before_first, List.list_any, Str.bytes_eq}
use Rattle.flow_design.specs.{limits_at, Scale}
use Rattle.flow_word.specs.{number_written, NumberFault}
use Rattle.cli_words.specs.{declared.Command.Command, declared.Options.Options, declared.SessionTask.SessionTask}
use Rattle.cli_words.specs.{declared.ViewName.ViewName, declared.rules.CommandName.CommandName}
use Rattle.cli_words.specs.declared.Command.TheVariants.{Of, Gen}
use Rattle.cli_words.specs.declared.Simulator.TheVariants.{Threads, Alone, Clock}
use Rattle.cli_words.specs.declared.SessionTask.TheVariants.{Simulate, Check, Advise, Show, Order, Sweep, Size, Least}
use Rattle.cli_words.specs.declared.ViewName.TheVariants.{Wave, Log, Stalls, Path, Trace}
use Rattle.flow_design.specs.declared.limits.Scale.TheVariants as scales
use Rattle.cli_words.specs.declared.rules.CommandName.TheVariants as name

-- a word, as its bytes
abbrev pub Text : Type 0
Text = List ℕ

-- ---- one word

-- the options that take no value
pub data Flag : Type 0 where
  Events : Flag
  Polls : Flag
  Large : Flag

-- the options that take a value
pub data Key : Type 0 where
  Cycles : Key
  Ops : Key
  Slack : Key

-- what a word means that comes before `--` and is not an option's value
pub data Word : Type 0 where
  -- `--`
  End : Word
  -- `--events`, `--polls` or `--large`
  Lone : Flag → Word
  -- `--cycles`, `--ops` or `--slack`, which take the next word
  Takes : Key → Word
  -- `--cycles=V`, `--ops=V` or `--slack=V`
  Has : Key → Text → Word
  Positional : Word
  -- the word begins with `-`, and is no option
  Unknown : Word

-- the first byte of a word is `-`
abbrev pub begins_with_hyphen : Text → Bool
begins_with_hyphen [] = false
begins_with_hyphen (c ∷ cs) = c == 45

-- the byte is `=`
abbrev pub is_equals : ℕ → Bool
is_equals c = c == 61

-- what comes after the first `=` of a word, if it has one
abbrev pub text_after_equals : Text → Option Text
text_after_equals word =
    if list_any is_equals word then Some (after_first is_equals word) else None

-- the word of an option that takes no value
abbrev pub without_value : Flag → Option Text → Word
without_value flag None = Lone flag
without_value flag (Some value) = Unknown

-- the word of an option that takes a value: after its `=`, or as the next word
abbrev pub taking_value : Key → Option Text → Word
taking_value key None = Takes key
taking_value key (Some value) = Has key value

-- the word of an option, by its name and what comes after its `=`
abbrev pub option_named : Text → Option Text → Word
option_named name value =
    if bytes_eq (codes "--events") name then without_value Events value
    else if bytes_eq (codes "--polls") name then without_value Polls value
    else if bytes_eq (codes "--large") name then without_value Large value
    else if bytes_eq (codes "--cycles") name then taking_value Cycles value
    else if bytes_eq (codes "--ops") name then taking_value Ops value
    else if bytes_eq (codes "--slack") name then taking_value Slack value
    else Unknown

-- what a word means; a single hyphen is a positional
abbrev pub meaning_of : Text → Word
meaning_of word =
    if not (begins_with_hyphen word) || bytes_eq (codes "-") word then Positional
    else if bytes_eq (codes "--") word then End
    else option_named (before_first is_equals word) (text_after_equals word)

-- ---- options and positionals

-- what words have said: options and positionals
pub record Arguments : Type 0 where
  pub events : Bool
  pub polls : Bool
  pub large : Bool
  pub cycles : Option Text
  pub ops : Option Text
  pub slack : Option Text
  pub positionals : List Text

-- what no words have said
abbrev pub no_arguments : Arguments
no_arguments = record { events = false; polls = false; large = false; cycles = None; ops = None; slack = None; positionals = [] }

-- what is said with one more option without a value; none where it was said before
abbrev pub with_flag : Flag → Arguments → Option Arguments
with_flag Events said = if said.events then None else Some (record said { events = true })
with_flag Polls said = if said.polls then None else Some (record said { polls = true })
with_flag Large said = if said.large then None else Some (record said { large = true })

-- what is said with one more option and its value; none where it was said before
abbrev pub with_option : Key → Text → Arguments → Option Arguments
with_option Cycles value said =
    if is_some said.cycles then None else Some (record said { cycles = Some value })
with_option Ops value said =
    if is_some said.ops then None else Some (record said { ops = Some value })
with_option Slack value said =
    if is_some said.slack then None else Some (record said { slack = Some value })

-- what is said with further positionals, in the order of the words
abbrev pub with_positionals : List Text → Arguments → Arguments
with_positionals words said = record said { positionals = said.positionals ++ words }

-- what a word and those after it say: `next` reads the words after it, given the option that waits for its value and what was said
-- so far; after `--` all words are positionals
abbrev pub after_word : Word → Text → List Text → Arguments → (Option Key → Arguments → Option Arguments)
    → Option Arguments
after_word End word rest said next = Some (with_positionals rest said)
after_word (Lone flag) word rest said next = option_and_then (next None) (with_flag flag said)
after_word (Takes key) word rest said next = next (Some key) said
after_word (Has key value) word rest said next =
    option_and_then (next None) (with_option key value said)
after_word Positional word rest said next = next None (with_positionals (word ∷ []) said)
after_word Unknown word rest said next = None

-- what words say, read from the first on; an option may wait for its value, which, as a word of its own, must not begin with `-`
abbrev pub said_from : Option Key → Arguments → List Text → Option Arguments
said_from None said [] = Some said
said_from (Some key) said [] = None
said_from None said (word ∷ rest) =
    after_word (meaning_of word) word rest said (λ waiting now. said_from waiting now rest)
said_from (Some key) said (value ∷ rest) =
    if begins_with_hyphen value then None
    else option_and_then (λ now. said_from None now rest) (with_option key value said)

-- ---- numbers

-- the number, if there is one and it is within the bounds, both of which are included
abbrev pub in_bounds : ℕ → ℕ → Result ℕ NumberFault → Option ℕ
in_bounds low high (Ok number) =
    if nat_le low number && nat_le number high then Some number else None
in_bounds low high (Err fault) = None

-- the number that a text of digits writes, if it is within the bounds
abbrev pub number_in : ℕ → ℕ → Text → Option ℕ
number_in low high text = in_bounds low high (number_written text)

-- the value of a limit, which need not be given; none where it is given and is no number from 1 to `high`
abbrev pub limit_in : ℕ → Option Text → Option (Option ℕ)
limit_in high None = Some None
limit_in high (Some text) = option_map (λ n. Some n) (number_in 1 high text)

-- ---- commands

-- the command with this name, if there is one
abbrev pub name_of : Text → Option CommandName
name_of word =
    if bytes_eq (codes "run") word then Some (name.Simulate Threads)
    else if bytes_eq (codes "alone") word then Some (name.Simulate Alone)
    else if bytes_eq (codes "clock") word then Some (name.Simulate Clock)
    else if bytes_eq (codes "check") word then Some name.Check
    else if bytes_eq (codes "gen") word then Some name.Gen
    else if bytes_eq (codes "advise") word then Some name.Advise
    else if bytes_eq (codes "wave") word then Some (name.Show Wave)
    else if bytes_eq (codes "log") word then Some (name.Show Log)
    else if bytes_eq (codes "stalls") word then Some (name.Show Stalls)
    else if bytes_eq (codes "path") word then Some (name.Show Path)
    else if bytes_eq (codes "trace") word then Some (name.Show Trace)
    else if bytes_eq (codes "order") word then Some name.Order
    else if bytes_eq (codes "sweep") word then Some name.Sweep
    else if bytes_eq (codes "size") word then Some name.Size
    else if bytes_eq (codes "least") word then Some name.Least
    else None

-- what was found, if there is no further positional
abbrev pub no_more : {T : Type 0} → List Text → Option T → Option T
no_more [] found = found
no_more (word ∷ words) found = None

-- the scale that the words choose: large where they have `--large`
abbrev pub scale_of : Arguments → Scale
scale_of said = if said.large then scales.Large else scales.Standard

-- the command that asks for this task
abbrev pub asked : Arguments → SessionTask → Command
asked said task = Of (record { scale = scale_of said; task = task })

-- an option other than `--large` is given
abbrev pub has_options : Arguments → Bool
has_options said = said.events || (said.polls || (is_some said.cycles || (is_some said.ops || is_some said.slack)))

-- what was found, if no option but `--large` is given
abbrev pub without_option : {T : Type 0} → Arguments → Option T → Option T
without_option said found = if has_options said then None else found

-- f of two values, if both are there
abbrev pub if_both : {A B C : Type 0} → (A → B → C) → Option A → Option B → Option C
if_both f None b = None
if_both f (Some x) b = option_map (f x) b

-- the options that were said, if the cycle limit is 1 to 10^15 and the operation limit 1 to that of the scale
abbrev pub options_of : Arguments → Option Options
options_of said = if_both (λ cycles ops. record {
  events = said.events;
  polls = said.polls;
  cycles = cycles;
  ops = ops;
}) (limit_in (10 ^ 15) said.cycles) (limit_in (limits_at (scale_of said)).counted_operations said.ops)

-- what was found, unless an option is given that the command does not take
abbrev pub if_taken : {T : Type 0} → Bool → Bool → Option T → Option T
if_taken takes given found = if given && not takes then None else found

-- the options of a command that has no further positional and no `--slack`, and perhaps takes `--events` and `--polls`
abbrev pub options_alone : Bool → Bool → Arguments → List Text → Option Options
options_alone events polls said rest =
    if_taken events said.events (if_taken polls said.polls (if_taken false (is_some said.slack) (no_more rest (options_of said))))

-- the view takes `--events`: only `path` does, for its links
abbrev pub tells_events : ViewName → Bool
tells_events Path = true
tells_events _ = false

-- the view takes `--polls`: `stalls` and `path` do, for what modules poll
abbrev pub tells_polls : ViewName → Bool
tells_polls Stalls = true
tells_polls Path = true
tells_polls _ = false

-- the command `gen` with its two positionals: a seed of 0 to 65,535, and 1 to 64 modules
abbrev pub gen_of : List Text → Option Command
gen_of (seed ∷ modules ∷ []) =
    if_both (λ s m. Gen s m) (number_in 0 65_535 seed) (number_in 1 64 modules)
gen_of _ = None

-- two numbers of 1 to 64, of which the second is at least the first
abbrev pub range_in : Text → Text → Option (ℕ × ℕ)
range_in lo hi = option_and_then (λ l. option_map (λ h. (l, h)) (number_in l 64 hi)) (number_in 1 64 lo)

-- the command `sweep` with its two positionals, the least depth and the greatest
abbrev pub sweep_of : Arguments → List Text → Option Command
sweep_of said (lo ∷ hi ∷ []) =
    if_taken false said.events (if_taken false said.polls (if_taken false (is_some said.slack)
    (if_both (λ range o. asked said (Sweep range.0 range.1 o)) (range_in lo hi) (options_of said))))
sweep_of said _ = None

-- the value of `--slack`, of 0 to 10^15; 0 where it is not given
abbrev pub slack_in : Option Text → Option ℕ
slack_in None = Some 0
slack_in (Some text) = number_in 0 (10 ^ 15) text

-- the command `size` or `least`, which takes `--slack` and has no further positional
abbrev pub with_slack : (ℕ → Options → SessionTask) → Arguments → List Text → Option Command
with_slack task said rest =
    if_taken false said.events (if_taken false said.polls
    (no_more rest (if_both (λ slack o. asked said (task slack o)) (slack_in said.slack) (options_of said))))

-- the command with this name that options and further positionals give, if its rule accepts them
abbrev pub command_named : Arguments → List Text → CommandName → Option Command
command_named said rest (name.Simulate by) = option_map (λ o. asked said (Simulate by o)) (options_alone true false said rest)
command_named said rest name.Check = without_option said (no_more rest (Some (asked said Check)))
command_named said rest name.Gen = if_taken false said.large (without_option said (gen_of rest))
command_named said rest name.Advise = option_map (λ o. asked said (Advise o)) (options_alone false false said rest)
command_named said rest (name.Show view) =
    option_map (λ o. asked said (Show view o)) (options_alone (tells_events view) (tells_polls view) said rest)
command_named said rest name.Order = without_option said (no_more rest (Some (asked said Order)))
command_named said rest name.Sweep = sweep_of said rest
command_named said rest name.Size = with_slack Size said rest
command_named said rest name.Least = with_slack Least said rest

-- the command that options and positionals give, of which the first is its name
abbrev pub command_by : Arguments → List Text → Option Command
command_by said [] = None
command_by said (word ∷ rest) = option_and_then (command_named said rest) (name_of word)

-- the command that words with these options and positionals are, if a rule accepts them
abbrev pub command_of : Arguments → Option Command
command_of said = command_by said said.positionals

-- ---- lists of words

-- the command that a list of words is, if it is accepted
unfoldable pub accepted : List Text → Option Command
accepted words = option_and_then command_of (said_from None no_arguments words)

-- ---- ranges

-- a limit, if it is given, is from 1 to `high`
abbrev pub IsLimit : ℕ → Option ℕ → Type 0
IsLimit high limit = IfSome limit (λ n. (1 ≤ n) × (n ≤ high))

-- the limits in these options are within their bounds at this scale
abbrev pub AreLimits : Scale → Options → Type 0
AreLimits scale options = IsLimit (10 ^ 15) options.cycles × IsLimit (limits_at scale).counted_operations options.ops

-- the numbers of a task are within their bounds at this scale
abbrev pub IsWithinBounds : Scale → SessionTask → Type 0
IsWithinBounds scale (Simulate by options) = AreLimits scale options
IsWithinBounds scale Check = Unit {0}
IsWithinBounds scale (Advise options) = AreLimits scale options
IsWithinBounds scale (Show view options) = AreLimits scale options
IsWithinBounds scale Order = Unit {0}
IsWithinBounds scale (Sweep lo hi options) = (1 ≤ lo) × (lo ≤ hi) × (hi ≤ 64) × AreLimits scale options
IsWithinBounds scale (Size slack options) = (slack ≤ 10 ^ 15) × AreLimits scale options
IsWithinBounds scale (Least slack options) = (slack ≤ 10 ^ 15) × AreLimits scale options

-- the numbers of a command are within their bounds
abbrev pub IsInRange : Command → Type 0
IsInRange (Of asked) = IsWithinBounds asked.scale asked.task
IsInRange (Gen seed modules) = (seed ≤ 65_535) × (1 ≤ modules) × (modules ≤ 64)
