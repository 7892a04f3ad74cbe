-- What the program holds of a plan in a clock, and what the plan's modules do in it.
use Rattle.std.specs.Prelude.{◌≡◌, ℕ, ◌≤◌, Bool, List, ◌++◌}
use Rattle.flow_design.specs.{Plan, Element, FitsEngine, ModuleState}
use Rattle.lockstep_defs.specs.{HistoryStep, events_of, state, state_at, moves, module_step}
use Rattle.module_code.specs.{BlockCode}
use Rattle.clock_machine.specs.{declared.memo.Round.Round, declared.memo.Traffic.Traffic}
use Rattle.clock_machine.specs.Parts.{exchanges_in, popped, pushed, events_kept, AreFitInTime, AreCodes}

-- the engine takes the plan, this is the plan's code, and its modules can come to these states
pub record MachineStands (p : Plan) (codes : List (List BlockCode)) (states : List ModuleState) : Type 0 where
  pub fits : FitsEngine p
  pub made : AreCodes p codes
  pub fit : AreFitInTime p states

-- the engine takes the plan, this is the plan's code, and the channels hold these contents in this clock
pub record Runs (p : Plan) (codes : List (List BlockCode)) (clock : ℕ) (contents : List (List Element)) : Type 0 where
  pub fits : FitsEngine p
  pub made : AreCodes p codes
  pub early : clock ≤ p.cycles
  pub holding : contents ≡ (state p clock).contents

-- module i moves in a clock
abbrev pub does_move : Plan → ℕ → ℕ → Bool
does_move p clock i = moves p clock (state p clock).contents (i, state_at p clock i)

-- the step of module i in a clock; none where it does no FIFO operation
abbrev pub step_at : Plan → ℕ → ℕ → List HistoryStep
step_at p clock i = module_step p clock (state p clock).contents (i, state_at p clock i)

-- what these steps pop and push was added to the traffic
pub record HasMoved (old new : Traffic) (steps : List HistoryStep) : Type 0 where
  pub pops : new.pops ≡ old.pops ++ popped (exchanges_in steps)
  pub pushes : new.pushes ≡ old.pushes ++ pushed (exchanges_in steps)

-- what these steps pop and push was added to the traffic, and their events were added where events are kept
pub record HasDone (keep : Bool) (old new : Round) (steps : List HistoryStep) : Type 0 where
  pub traffic : HasMoved old.traffic new.traffic steps
  pub events : new.events ≡ old.events ++ events_kept keep (events_of steps)
