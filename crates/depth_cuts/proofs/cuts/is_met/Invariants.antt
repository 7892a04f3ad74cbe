use Rattle.std.proofs.Common.{ℕ, ◌<◌}
use Rattle.std.specs.Prelude.{slice_index, slice_index_or}
use Rattle.depth_cuts.specs.{Need}
use Rattle.depth_cuts.proofs.cuts.is_met.Given as goal

abbrev pub invariant-loop-place : goal.invariant-loop-place
invariant-loop-place l = (k : ℕ) (d : Need) → k < l.place
    → slice_index l.depths (slice_index_or l.needs k d).channel < (slice_index_or l.needs k d).depth
