-- How far a run has come.
use Rattle.std.specs.Prelude.{◌≡◌, ◌<◌, ℕ, Bool, List, [], length, slice_index_or}
use Rattle.flow_design.specs.{Plan}
use Rattle.module_code.specs.{BlockCode}
use Rattle.lockstep_defs.specs.{state, history, steps_of, outcomes, events_of}
use Rattle.clock_machine.specs.{declared.run.Run.Run, Parts.events_kept, Memos.AreRemembered}

-- a run is at a clock: its modules are kept as of that clock, the channels hold what they hold then, and all that was done before
-- is collected
pub record HasCome (p : Plan) (codes : List (List BlockCode)) (keep : Bool) (clock : ℕ) (run : Run) : Type 0 where
  pub remembered : AreRemembered p codes clock run.state.modules run.memos
  pub holding : run.state.contents ≡ (state p clock).contents
  pub no_pops : run.round.traffic.pops ≡ []
  pub no_pushes : run.round.traffic.pushes ≡ []
  pub events : run.round.events ≡ events_kept keep (events_of (history p clock))
  pub answer_count : length run.answers ≡ length p.design.modules
  pub answers : (i : ℕ) → i < length p.design.modules → slice_index_or run.answers i [] ≡ outcomes (steps_of i (history p clock))
