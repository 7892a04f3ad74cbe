use Rattle.std.proofs.Common.{ℕ, List, ◌+◌, ◌-◌, ◌≤◌, ◌≡◌, length}
use Rattle.std.specs.{Prelude.vec_len, declared.option.Option.Option, Io.KnownBytes.Consumes}
use Rattle.sim_io.proofs.reading.read_all.Given as goal

-- what was read so far, the count of faults, and the room of the chunk
pub record IsReading (first left : Option (List ℕ)) (all : List ℕ) (room limit before now : ℕ) : Type 0 where
  pub bytes : Consumes first left all
  pub within : length all ≤ limit + 1
  pub faults : before ≤ now
  pub chunk : room ≡ 65536

abbrev pub invariant-loop-all : goal.invariant-loop-all
invariant-loop-all g l = IsReading (g.S.Source.left l.fn.source) (g.S.Source.left l.source) l.all (vec_len l.chunk) l.limit
    (g.S.Source.faults l.fn.source) (g.S.Source.faults l.source)

abbrev pub decreases-loop-all : goal.decreases-loop-all
decreases-loop-all g l = l.limit + 1 - length l.all
