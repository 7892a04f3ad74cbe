use Rattle.std.specs.Prelude.{ℕ, ◌<◌, slice_index}
use Rattle.depth_cuts.specs.{IsRaised}
use Rattle.depth_cuts.proofs.raised.are_raised.Given as goal

abbrev pub invariant-loop-channel : goal.invariant-loop-channel
invariant-loop-channel l = (c : ℕ) → c < l.channel → IsRaised (slice_index l.depths c) (slice_index l.raised c)
