use Rattle.std.specs.Prelude.{◌≡◌, ◌++◌, All}
use Rattle.cycle_changes.specs.{IsAccessAt}
use Rattle.cycle_changes.proofs.reach.stands_at.Given as goal

abbrev pub invariant-loop-access : goal.invariant-loop-access
invariant-loop-access l =
    (l.accesses ≡ l.yielded ++ l.access-iterator) × All (λ a. IsAccessAt l.port.side l.port.channel a → ⊥) l.yielded
