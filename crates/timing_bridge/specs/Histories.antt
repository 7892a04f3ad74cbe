-- The legal histories of a plan: as a relation, and computed.
use Rattle.std.specs.Prelude.{List, Option}
use Rattle.flow_design.specs.{Plan, ModuleState}
use Rattle.timing_bridge.specs.{Designs.design, declared.turn.HubTurn.HubTurn, Turns.IsTurnOf, Turns.TurnsOf, Replays.turn_on}
use Rattle.timing_bridge.specs.{Replays.turns_on, Turned.Turned, Turned.opening_turned}

abbrev pub IsTurn : Plan → Turned ModuleState → HubTurn → Turned ModuleState → Type 0
IsTurn p v turn w = IsTurnOf (design p) p.cycles v turn w

-- the turns are legal from the plan's opening on, and lead to v
abbrev pub IsHistoryOf : Plan → List HubTurn → Turned ModuleState → Type 0
IsHistoryOf p turns v = TurnsOf (design p) p.cycles (opening_turned (design p)) turns v

abbrev pub turned_by : Plan → Turned ModuleState → HubTurn → Option (Turned ModuleState)
turned_by p v turn = turn_on (design p) p.cycles v turn

-- where the turns lead from the plan's opening on; none where they are not legal
abbrev pub standing_of : Plan → List HubTurn → Option (Turned ModuleState)
standing_of p turns = turns_on (design p) p.cycles (opening_turned (design p)) turns
