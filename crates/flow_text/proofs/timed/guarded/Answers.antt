use Rattle.std.proofs.Common.{map, sym, ◌∙◌}
use Rattle.flow_text.specs.{number_of, op_of}
use Rattle.flow_text.proofs.OperationLaws.{guarded_read}
use Rattle.flow_text.proofs.timed.guarded.Goals as goal

pub returns : goal.returns
returns c = record {
  given =
      guarded_read c.args.tables.now (number_of c.args.offset.now) c.args.register.now c.in_ok-guard.guard c.is_known-known.result
      (op_of (map (λ t. t.now) c.args.tokens.now)) c.number_in-offset.result c.in_ok-operation.operation c.timed.result
      (sym c.is_identifier.ensures ∙ c.if-not-is_identifier.false) c.number_in-offset.ensures c.is_known-known.ensures c.in_ok-guard.ensures
      c.in_ok-operation.ensures c.timed.ensures.given;
  kept = c.timed.ensures.kept;
}
