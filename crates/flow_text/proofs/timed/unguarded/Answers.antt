use Rattle.std.proofs.Common.{map}
use Rattle.flow_text.specs.{number_of, op_of}
use Rattle.flow_text.proofs.OperationLaws.{unguarded_read}
use Rattle.flow_text.proofs.timed.unguarded.Goals as goal

pub returns : goal.returns
returns c = record {
  given =
      unguarded_read c.args.tables.now (number_of c.args.offset.now) (op_of (map (λ t. t.now) c.args.tokens.now)) c.number_in-offset.result
      c.in_ok-operation.operation c.timed.result c.number_in-offset.ensures c.in_ok-operation.ensures c.timed.ensures.given;
  kept = c.timed.ensures.kept;
}
