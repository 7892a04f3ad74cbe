use Rattle.std.proofs.Common.{◌-◌, ◌^◌, length}
use Rattle.least_memory.specs.{AreNeeded}
use Rattle.least_memory.proofs.finding.fewest_bits.Given as goal

abbrev pub invariant-loop-demands : goal.invariant-loop-demands
invariant-loop-demands g l = AreNeeded l.core.plan l.clock l.demands

abbrev pub decreases-loop-demands : goal.decreases-loop-demands
decreases-loop-demands g l = 2 ^ 64 - length l.demands.cuts
