-- What contracts see of a core.
use Rattle.std.specs.Prelude.{Bool, List}
use Rattle.flow_design.specs.{Plan, ModuleState}
use Rattle.event_timing.specs.Core.{Core}
use Rattle.engine_view.specs.{Held.Held, core_of}
use Rattle.timing_bridge.specs.{design}

-- the plan of a core, what it holds, and for each module whether its run is lent
pub record CoreView : Type 0 where
  pub plan : Plan
  pub held : Held
  pub lent : List Bool

-- the core of the theory that a core holds
abbrev pub theory_of : CoreView → Core ModuleState
theory_of v = core_of (design v.plan) v.held
