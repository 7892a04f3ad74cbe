use Rattle.std.proofs.Common.{◌+◌, ◌-◌, ◌/◌, arith}
use Rattle.path_text.proofs.Searched.{above_middle, below_middle}
use Rattle.path_text.proofs.spans.span_with.Goals as goal

pub loop-low-preserved-then-clock-span : goal.loop-low-preserved-then-clock-span
loop-low-preserved-then-clock-span c =
    let x = c.loop-low.invariant in
    let within = x.within in
    record {
      within = omega (arith, c.loop-low-test.true);
      below = x.below;
      above = above_middle c.args.spans.now c.requires (c.loop-low.low + (c.loop-low.high - c.loop-low.low) / 2) c.args.clock _
          (omega (arith, c.loop-low-test.true)) c.if-clock-span.true;
    }

pub loop-low-preserved : goal.loop-low-preserved
loop-low-preserved c =
    let x = c.loop-low.invariant in
    let within = x.within in
    record {
      within = x.within;
      below = below_middle c.args.spans.now c.requires (c.loop-low.low + (c.loop-low.high - c.loop-low.low) / 2) c.args.clock _
          (omega (arith, c.loop-low-test.true)) c.if-span-clock.true;
      above = x.above;
    }
