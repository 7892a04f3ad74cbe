-- The runs of the tests.
use Rattle.std.specs.Prelude.{ℕ}
use Rattle.flow_design.specs.{Plan}
use Rattle.lockstep_defs.specs.{Own}
use Rattle.module_interp.specs.{ModuleRun, StandsAt}

-- the run is a module's of some plan, at some point of the module's own run
pub record IsSomeRun (run : ModuleRun) : Type 0 where
  pub plan : Plan
  pub number : ℕ
  pub rest : Own
  pub stands : StandsAt plan number rest run
