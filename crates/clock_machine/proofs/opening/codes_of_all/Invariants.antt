use Rattle.std.proofs.Common.{◌≡◌, ℕ, ◌<◌, List, length, get_or}
use Rattle.clock_machine.specs.{module_at, BlockCode, AreCodesOf}
use Rattle.clock_machine.proofs.opening.codes_of_all.Given as goal

-- the code of the modules so far
abbrev pub invariant-loop-i : goal.invariant-loop-i
invariant-loop-i l = record {
  count : length l.codes ≡ l.i;
  each : (n : ℕ) (d : List BlockCode) → n < l.i → AreCodesOf l.plan.design.channels (module_at l.plan n) (get_or l.codes n d);
}
