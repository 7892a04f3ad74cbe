use Rattle.std.proofs.Common.{◌≤◌, length, subst, arith}
use Rattle.flow_design.specs.declared.limits.Limits.{Limits}
use Rattle.flow_grammar.proofs.TextLaws.{answer_given}
use Rattle.flow_text.proofs.reading.answer.Goals as goal

pub returns : goal.returns
returns c =
    let long = c.if-text-limits.false in
    let short : length c.args.text.now ≤ c.limits.result.text_bytes = grind arith in
    answer_given c.args.scale c.args.text.now c.read_lines.result
    (subst (λ (limits : Limits). length c.args.text.now ≤ limits.text_bytes) c.limits.ensures short) c.read_lines.ensures
