use Rattle.std.proofs.Common.{◌≡◌, ℕ, ◌<◌, ◌≤◌, length}
use Rattle.std.specs.Prelude.{slice_index, slice_index_or}
use Rattle.depth_cuts.specs.{Need}
use Rattle.depth_cuts.proofs.rises.mark_used.Given as goal

abbrev pub invariant-loop-place : goal.invariant-loop-place
invariant-loop-place l = record {
  marked : (k : ℕ) (d : Need) → k < l.place → 1 ≤ slice_index l.used (slice_index_or l.needs k d).channel;
  kept : (f : ℕ) → slice_index l.used f ≡ 0 → slice_index l.fn.used f ≡ 0;
  count : length l.used ≡ length l.fn.used;
}
