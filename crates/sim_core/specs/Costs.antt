-- What an edit and the actions after it cost.
use Rattle.std.specs.Prelude.{◌≡◌, ℕ, ◌+◌, ◌≤◌, ◌⊎◌, map}
use Rattle.flow_design.specs.{Edit}
use Rattle.event_graph.specs.{timed_below}
use Rattle.fifo_table.specs.{channel_at}
use Rattle.retime.specs.{cycles_in, steps_in_lanes, IsFirstTouched, IsNeverTouched}
use Rattle.sim_core.specs.Views.{CoreView}

-- the clock is the first touched clock of the edit, or the limit where there is none
abbrev pub IsFeltFrom : CoreView → Edit → ℕ → Type 0
IsFeltFrom v e clock = IsFirstTouched v.held.lanes (channel_at v.held.channels e.channel) e.depth clock
    ⊎ (IsNeverTouched v.held.lanes (channel_at v.held.channels e.channel) e.depth × (clock ≡ v.plan.cycles))

-- how many steps of a core have a cycle below the clock
abbrev pub kept_below : CoreView → ℕ → ℕ
kept_below v clock = cycles_in (map (timed_below clock) v.held.lanes)

-- the cycles that were set, and the steps with a cycle below the edit's first touched clock, are together at most all steps
-- afterwards
pub record HasSetFew (v : CoreView) (e : Edit) (w : CoreView) (set : ℕ) : Type 0 where
  pub clock : ℕ
  pub felt : IsFeltFrom v e clock
  pub few : set + kept_below v clock ≤ steps_in_lanes w.held.lanes
