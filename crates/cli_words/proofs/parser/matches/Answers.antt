use Rattle.std.proofs.Common.{◌≡◌, ◌∙◌, ap, ap₂, refl, subst, map}
use Rattle.cli_words.proofs.ParsedLemmas.{rows_by}
use Rattle.std.specs.Prelude.{string_bytes}
use Rattle.clap.specs.{Simple.app_of, Simple.with_rule, Kinds.FailsBy, Faults.fault_of, Faults.is_simple_and_free}
use Rattle.cli_words.specs.{parser}
use Rattle.cli_words.proofs.parser.matches.Goals as goal

module _ (c : goal.After-try_get_matches_from) where
  parser_is : app_of c.in_ok-parser.parser ≡ parser
  parser_is =
      c.in_ok-parser.ensures.shape c.positional-3.ensures.local ∙ ap₂ with_rule (
      c.in_ok-arg-8.ensures.shape c.positional-2.ensures.local ∙ ap₂ with_rule (
      c.in_ok-arg-7.ensures.shape c.positional.ensures.local ∙ ap₂ with_rule (
      c.in_ok-arg-6.ensures.shape c.option-3.ensures.local ∙ ap₂ with_rule (
      c.in_ok-arg-5.ensures.shape c.option-2.ensures.local ∙ ap₂ with_rule (
      c.in_ok-arg-4.ensures.shape c.option.ensures.local ∙ ap₂ with_rule (
      c.in_ok-arg-3.ensures.shape c.flag-3.ensures.local ∙ ap₂ with_rule (
      c.in_ok-arg-2.ensures.shape c.flag-2.ensures.local ∙ ap₂ with_rule (
      c.in_ok-arg.ensures.shape c.flag.ensures.local
      ∙ ap₂ with_rule c.bare_parser.ensures (c.flag.ensures.rule)) (c.flag-2.ensures.rule)) (c.flag-3.ensures.rule))
      (c.option.ensures.rule)) (c.option-2.ensures.rule)) (c.option-3.ensures.rule))
      (c.positional.ensures.rule)) (c.positional-2.ensures.rule)) (c.positional-3.ensures.rule)

pub returns-clause-fails : goal.returns-clause-fails
returns-clause-fails c =
    subst (λ a. FailsBy (fault_of a (map string_bytes c.args.words.now)) c.try_get_matches_from.result)
    (parser_is c)
    (c.try_get_matches_from.ensures.kinds (ap is_simple_and_free (parser_is c)))

pub returns-clause-rows : goal.returns-clause-rows
returns-clause-rows c =
    rows_by _ parser (map string_bytes c.args.words.now) c.try_get_matches_from.result
    (parser_is c) refl c.try_get_matches_from.ensures.matches
