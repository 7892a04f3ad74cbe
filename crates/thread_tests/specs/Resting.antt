-- The passes of a hub between two turns.
use Rattle.std.specs.Prelude.{◌≡◌, List}
use Rattle.turn_lock.specs.Passes.{TableId}
use Rattle.sim_hub.specs.{PerfPass, ModulePass, perf_hub, AreOfHub, AllHome, HasEachModule}

-- the performance pass is of this hub, and so are the passes of all its modules, in some order, with no desk borrowed
pub record AreResting (id : TableId) (perf : PerfPass) (modules : List ModulePass) : Type 0 where
  pub lead : perf_hub perf ≡ id
  pub each : HasEachModule perf modules
  pub own : AreOfHub id modules
  pub home : AllHome modules
