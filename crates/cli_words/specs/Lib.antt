pub mod CommandWords
pub mod Parser
pub mod Given
pub use CommandWords.{AreLimits, Arguments, Flag, IsInRange, IsLimit, IsWithinBounds, Key, Text, Word, after_word, asked}
pub use CommandWords.{begins_with_hyphen, command_by, command_named, command_of, gen_of, has_options, is_equals, limit_in, meaning_of}
pub use CommandWords.{name_of, no_arguments, no_more, number_in, option_named, options_alone, options_of, said_from, scale_of, slack_in}
pub use CommandWords.{sweep_of, taking_value, tells_events, tells_polls, text_after_equals, with_flag, with_option, with_positionals}
pub use CommandWords.{with_slack, without_option, without_value}
unfoldable pub use CommandWords.{accepted}
pub use Parser.{bare_parser, cycles_rule, events_rule, flag_rule, large_rule, ops_rule, option_rule, parser, polls_rule, slack_rule}
pub use Given.{IsGivenBy, further_positionals, positionals_of, said_of, text_of}
pub use declared.{Command.Command, Options.Options, ScaledTask.ScaledTask, SessionTask.SessionTask, ViewName.ViewName, WordFault.WordFault}
pub use declared.{rules.CommandName.CommandName}
pub use Rattle.flow_design.specs.{Scale, limits_at}
pub use Rattle.flow_word.specs.{NumberFault, number_written}
