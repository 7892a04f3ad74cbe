use Rattle.std.proofs.Common.{◌≡◌, ℕ, ◌<◌}
use Rattle.std.specs.Prelude.{slice_index, slice_index_or}
use Rattle.depth_cuts.specs.{Need}
use Rattle.depth_cuts.proofs.rises.are_unused.Given as goal

abbrev pub invariant-loop-place : goal.invariant-loop-place
invariant-loop-place l = (k : ℕ) (d : Need) → k < l.place → slice_index l.used (slice_index_or l.needs k d).channel ≡ 0
