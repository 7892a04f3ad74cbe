-- Lanes with the room that was reserved for further steps, as contracts see them.
use Rattle.std.specs.Prelude.{ℕ, List, map}
use Rattle.event_graph.specs.Lanes.{Lane}

-- a lane, and how many further steps, with their cycles, it takes whatever memory is left
pub record RoomedLane : Type 0 where
  pub lane : Lane
  pub room : ℕ

-- the lane of each module, and the room of each lane
pub record RoomedLanes : Type 0 where
  pub lanes : List Lane
  pub rooms : List ℕ

-- the lanes without their rooms
abbrev pub lanes_of : List RoomedLane → List Lane
lanes_of lanes = map (λ l. l.lane) lanes

-- the rooms without their lanes
abbrev pub rooms_of : List RoomedLane → List ℕ
rooms_of lanes = map (λ l. l.room) lanes
