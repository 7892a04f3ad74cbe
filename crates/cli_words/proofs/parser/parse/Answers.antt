use Rattle.std.proofs.Common.{map, codes}
use Rattle.std.specs.Prelude.{string_bytes}
use Rattle.clap.specs.Matches.{found_of, one_text}
use Rattle.cli_words.proofs.ParsedLemmas.{all_utf8, by_flag, given_err, given_ok}
use Rattle.cli_words.proofs.parser.parse.Goals as goal

pub returns-in-Ok : goal.returns-in-Ok
returns-in-Ok c =
    given_ok (map string_bytes c.args.words.now) (all_utf8 c.args.words.now)
    (found_of c.in-Ok.matches) c.in-Ok.ensures.fails c.in-Ok.ensures.rows _
    (by_flag (one_text (found_of c.in-Ok.matches)
    (codes "events")) c.get_flag.result c.get_flag.ensures.value c.get_flag.ensures.other)
    (by_flag (one_text (found_of c.in-Ok.matches)
    (codes "polls")) c.get_flag-in-Ok.result c.get_flag-in-Ok.ensures.value c.get_flag-in-Ok.ensures.other)
    (by_flag (one_text (found_of c.in-Ok.matches)
    (codes "large")) c.get_flag-in-Ok-2.result c.get_flag-in-Ok-2.ensures.value c.get_flag-in-Ok-2.ensures.other)
    c.get_str.ensures c.get_str-in-Ok.ensures c.get_str-in-Ok-2.ensures c.get_str-in-Ok-3.ensures c.get_str-in-Ok-4.ensures
    c.get_str-in-Ok-5.ensures

pub returns-in-Err : goal.returns-in-Err
returns-in-Err c =
    given_err (map string_bytes c.args.words.now)
    (all_utf8 c.args.words.now) c.in-Err.error c.word_fault.result c.in-Err.ensures.fails c.word_fault.ensures
