use Rattle.std.proofs.Common.{below_more}
use Rattle.vcd_wave.proofs.fill.each_varies.Goals as goal

pub returns-in-None : goal.returns-in-None
returns-in-None c = (
  (λ e. cc),
  (λ h. let lead = h c.loop-fifo.fifo c.loop-fifo-test.true in c.in-None.ensures.all lead.0 lead.1),
)

pub loop-fifo-preserved : goal.loop-fifo-preserved
loop-fifo-preserved c = below_more _ _ c.loop-fifo.invariant (c.in-Some.field-0, c.in-Some.ensures.some)
