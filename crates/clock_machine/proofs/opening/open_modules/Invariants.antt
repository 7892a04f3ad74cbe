use Rattle.std.proofs.Common.{◌≡◌, ℕ, ◌<◌, map, take, get_or, length}
use Rattle.clock_machine.specs.{opened, nobody, IsFit}
use Rattle.clock_machine.proofs.opening.open_modules.Given as goal

abbrev pub invariant-loop-i : goal.invariant-loop-i
invariant-loop-i l = record {
  states : l.states ≡ map opened (take l.i l.plan.design.modules);
  count : length l.states ≡ l.i;
  fit : (k : ℕ) → k < l.i → IsFit l.plan 0 (k, get_or l.states k nobody);
}
