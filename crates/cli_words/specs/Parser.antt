-- The `clap` command that parses the words, as its contracts see it.
use Rattle.std.specs.Prelude.{codes, true, [], Some}
use Rattle.clap.specs.Words.{App, Rule, Text, new_app, new_rule, with_rule}
use Rattle.clap.specs.declared.builder.ArgAction.TheVariants.{SetTrue}

-- the rule of an option `--NAME` that takes no value
abbrev pub flag_rule : Text → Rule
flag_rule name = record (new_rule name) { long = Some name; action = Some SetTrue }

-- the rule of an option `--NAME` that takes a value
abbrev pub option_rule : Text → Rule
option_rule name = record (new_rule name) { long = Some name }

-- the rules of the six options
abbrev pub events_rule : Rule
events_rule = flag_rule (codes "events")

abbrev pub polls_rule : Rule
polls_rule = flag_rule (codes "polls")

abbrev pub large_rule : Rule
large_rule = flag_rule (codes "large")

abbrev pub cycles_rule : Rule
cycles_rule = option_rule (codes "cycles")

abbrev pub ops_rule : Rule
ops_rule = option_rule (codes "ops")

abbrev pub slack_rule : Rule
slack_rule = option_rule (codes "slack")

-- a parser without options and positionals: it takes no program's name, and has no help and no version
abbrev pub bare_parser : App
bare_parser = let a = new_app (codes "omnisim") in record {
  top = record a.top {
    no_binary_name = true;
    disable_help_flag = true;
    disable_version_flag = true;
  };
  subs = [];
}

-- the parser of the program: six options and three positionals
abbrev pub parser : App
parser =
    with_rule (with_rule (with_rule (with_rule (with_rule (with_rule (with_rule (with_rule (with_rule bare_parser events_rule) polls_rule)
    large_rule) cycles_rule) ops_rule) slack_rule) (new_rule (codes "command"))) (new_rule (codes "second")))
    (new_rule (codes "third"))
