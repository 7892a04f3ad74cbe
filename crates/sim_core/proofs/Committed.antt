-- How many steps of a module have their replies committed.
use Rattle.std.proofs.Common.{◌≡◌, ℕ, ◌-◌, ◌≤◌, true, false, arith}
use Rattle.std.proofs.lemmas.Bool.{cond-true, cond-false}
use Rattle.sim_core.specs.{ModuleState, ModuleRun, waits, steps_committed}
use Rattle.event_timing.specs.Core.{Core}

pub committed_waits : (x : Core ModuleState) (m : ℕ) (run : ModuleRun) → waits run ≡ true → steps_committed x m run ≡ x.emitted m - 1
committed_waits x m run e = cond-true (waits run) (x.emitted m - 1) (x.emitted m) e

pub committed_goes : (x : Core ModuleState) (m : ℕ) (run : ModuleRun) → waits run ≡ false → steps_committed x m run ≡ x.emitted m
committed_goes x m run e = cond-false (waits run) (x.emitted m - 1) (x.emitted m) e

pub committed_below : (x : Core ModuleState) (m : ℕ) (run : ModuleRun) → steps_committed x m run ≤ x.emitted m
committed_below x m run = grind arith
