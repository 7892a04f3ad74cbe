-- The history of a hub: the plan at whose opening it began, and the turns since.
use Rattle.std.specs.Prelude.{◌≡◌, ℕ, List, ◌∷◌, map, Option, None, Some}
use Rattle.flow_design.specs.{Plan, ModuleState}
use Rattle.timing_bridge.specs.declared.entry.HubEntry.{HubEntry}
use Rattle.timing_bridge.specs.declared.entry.HubEntry.TheVariants.{Opened, Turn}
use Rattle.timing_bridge.specs.{declared.turn.HubTurn.HubTurn, Turned.Turned, Turns.taker, Histories.standing_of}

-- the number of the pass that an entry bears; the opening bears none
abbrev pub bearer : HubEntry → Option ℕ
bearer (Opened p) = None
bearer (Turn turn) = Some (taker turn)

abbrev pub history_of : Plan → List HubTurn → List HubEntry
history_of p turns = Opened p ∷ map Turn turns

-- the entries are a legal history of the plan, which leads to v
pub record Stands (p : Plan) (seen : List HubEntry) (v : Turned ModuleState) : Type 0 where
  pub turns : List HubTurn
  pub entries : seen ≡ history_of p turns
  pub standing : standing_of p turns ≡ Some v
