use Rattle.std.proofs.Common.{◌≡◌, ◌-◌, ◌<◌, ◌++◌, [], length}
use Rattle.std.specs.Prelude.{slice_index_or}
use Rattle.depth_sweep.specs.{grid}
use Rattle.depth_sweep.proofs.shape.depths_at.Given as goal

-- the depths so far, and then those of the list with what is left of the number in the grid of the FIFOs that are left
abbrev pub invariant-loop-fifo : goal.invariant-loop-fifo
invariant-loop-fifo l = record {
  unit : l.unit ≡ length (grid l.shape.lo l.shape.hi (l.shape.fifos - l._fifo));
  inside : l.rest < l.unit;
  left : slice_index_or (grid l.shape.lo l.shape.hi l.shape.fifos) l.number []
      ≡ l.depths ++ slice_index_or (grid l.shape.lo l.shape.hi (l.shape.fifos - l._fifo)) l.rest [];
}
