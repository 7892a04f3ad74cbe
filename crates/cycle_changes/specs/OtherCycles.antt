-- What is held with another depth of a FIFO and with other cycles.
use Rattle.std.specs.Prelude.{◌≡◌, ℕ, length, All}
use Rattle.flow_design.specs.{Edit}
use Rattle.event_graph.specs.{IsSoundLane, lane_at}
use Rattle.fifo_table.specs.{deepened_channels}
use Rattle.engine_view.specs.Held.{Held}

-- g is h with another depth of the FIFO, and perhaps with other cycles of the steps that have one; all else is as it was
pub record HasOtherCycles (h g : Held) (e : Edit) : Type 0 where
  pub lanes : length g.lanes ≡ length h.lanes
  pub steps : (m : ℕ) → (lane_at g.lanes m).steps ≡ (lane_at h.lanes m).steps
  pub counts : (m : ℕ) → length (lane_at g.lanes m).cycles ≡ length (lane_at h.lanes m).cycles
  pub sound : All IsSoundLane g.lanes
  pub channels : g.channels ≡ deepened_channels h.channels e.channel e.depth
  pub logs : g.logs ≡ h.logs
  pub over : g.over ≡ h.over
