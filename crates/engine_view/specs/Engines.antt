-- What an engine holds, as the code has it.
use Rattle.std.specs.Prelude.{Bool, List, map, Option, is_some}
use Rattle.flow_design.specs.{Advance}
use Rattle.engine_view.specs.{declared.engine.Engine.Engine, Held.Held, Held.held_parts}

-- for each module, whether it has an end mark
abbrev pub over_of : List (Option Advance) → List Bool
over_of ends = map is_some ends

-- what an engine holds: of the end marks, only which modules have one
abbrev pub held_in : Engine → Held
held_in e = held_parts e.graph.lanes e.fifos.channels e.log.logs (over_of e.ends.items)
