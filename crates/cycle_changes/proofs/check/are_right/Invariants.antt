use Rattle.std.proofs.Common.{take}
use Rattle.std.specs.Prelude.{All}
use Rattle.cycle_changes.specs.{Place, held_in, IsLooked}
use Rattle.cycle_changes.proofs.check.are_right.Given as goal

abbrev pub invariant-loop-place : goal.invariant-loop-place
invariant-loop-place l = All (λ (p : Place). IsLooked (held_in l.engine) p.module p.step) (take l.place-index l.places)
