use Rattle.std.proofs.Common.{ℕ, ◌<◌, ◌≤◌, ◌*◌, ◌-◌, length}
use Rattle.std.specs.Prelude.{slice_index, slice_index_or}
use Rattle.depth_cuts.specs.{Need}
use Rattle.depth_cuts.proofs.rises.least_rise.Given as goal

abbrev pub invariant-loop-place : goal.invariant-loop-place
invariant-loop-place l = record {
  first : 0 < length l.needs → l.least.place < length l.needs;
  least : (k : ℕ) (d : Need) → k < l.place → l.least.bits
      ≤ ((slice_index_or l.needs k d).depth - slice_index l.at.depths (slice_index_or l.needs k d).channel)
      * slice_index l.demands.widths (slice_index_or l.needs k d).channel;
}
