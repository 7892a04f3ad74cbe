use Rattle.std.proofs.Common.{arith, ap, ◌∙◌}
use Rattle.clock_machine.specs.{kind_at, is_sink, values, contents_of}
use Rattle.clock_machine.proofs.Fronts.{passed_more}
use Rattle.clock_machine.proofs.ending.outputs.Goals as goal

pub loop-i-preserved : goal.loop-i-preserved
loop-i-preserved c = record {
  told = passed_more (λ f. values (contents_of c.args.contents.now f)) (λ f. values (contents_of c.loop-i.contents f))
      (λ f. is_sink (kind_at c.args.plan.now f)) c.loop-i.i c.loop-i.outputs
      c.output_one.new.outputs c.loop-i.invariant.told c.in_ok-output_one.ensures.values
      (ap values (c.loop-i.invariant.rest c.loop-i.i (omega arith)));
  rest = λ k l. c.in_ok-output_one.ensures.others k (omega arith) ∙ c.loop-i.invariant.rest k (omega arith);
}
