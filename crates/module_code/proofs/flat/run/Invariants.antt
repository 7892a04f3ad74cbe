use Rattle.std.proofs.Common.{◌≡◌, ℕ, ◌+◌, List, [], length, take, drop}
use Rattle.module_code.specs.{Instruction, ran, AreSound}
use Rattle.module_code.proofs.flat.run.Given as goal

-- running the code that is left on the results so far gives what running all gives
pub record IsRunning (registers temps : List ℕ) (code left : List Instruction) (before scratch : List ℕ) (at : ℕ) : Type 0 where
  pub rest : ran registers temps (take at scratch) left ≡ ran registers temps [] code
  pub sound : AreSound (length registers + length temps) at left
  pub room : length scratch ≡ length before

abbrev pub invariant-loop-at : goal.invariant-loop-at
invariant-loop-at l = IsRunning l.registers l.temps l.code (drop l.at l.code) l.initial.scratch l.scratch l.at
