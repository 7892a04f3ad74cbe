use Rattle.std.proofs.Common.{◌≡◌, ℕ, ◌<◌, length}
use Rattle.std.specs.Prelude.{slice_index}
use Rattle.least_memory.specs.{IsFloor}
use Rattle.least_memory.proofs.demands.first_demands.Given as goal

abbrev pub invariant-loop-channel : goal.invariant-loop-channel
invariant-loop-channel l = record {
  count : length l.floors ≡ l.channel;
  each : (f : ℕ) → f < l.channel → IsFloor l.core.plan l.clock f (slice_index l.floors f);
}
