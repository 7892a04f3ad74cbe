-- What a path of steps shows about a plan with other depths.
use Rattle.std.specs.Prelude.{◌≡◌, ℕ, suc, ◌+◌, ◌-◌, ◌<◌, ◌≤◌, nat_lt, true, if◌then◌else◌, List, length, slice_get, slice_index}
use Rattle.std.specs.Prelude.{slice_index_or, slice_set, Option, None, Some}
use Rattle.flow_word.specs.{Access, Place, Side, side_of, other_side, same_side, is_blocking, declared.access.Side.TheVariants.Push}
use Rattle.flow_design.specs.{Edit, Plan, Advance}
use Rattle.event_graph.specs.{Lane, lane_at}
use Rattle.fifo_table.specs.{Channel, IsFifo, channel_at, places_of, free_of, lag_of}
use Rattle.timing_bridge.specs.{design, lockstep_run, start_in}
use Rattle.depth_order.specs.{with_depths, AreDepths, AreDeeper, AsksNothing}
use Rattle.engine_view.specs.{Engine, held_in, Held.Held}
use Rattle.engine_report.specs.{HoldsEnd, end_at, gap_of_end}
use Rattle.path_check.specs.Paths.{IsAfter}

-- ---- the depths

-- the list of depths, in which the edit, if there is one, has replaced the depth of its FIFO
abbrev pub depths_with : List ℕ → Option Edit → List ℕ
depths_with depths None = depths
depths_with depths (Some edit) = slice_set depths edit.channel edit.depth

-- the engine holds the end of the plan's run, the plan asks nothing, and the depths fit its FIFOs and are no greater than their own
pub record IsTried (p : Plan) (engine : Engine) (depths : List ℕ) : Type 0 where
  pub finished : HoldsEnd p engine
  pub quiet : AsksNothing p
  pub fit : AreDepths p depths
  pub lower : AreDeeper p depths p.depths

-- ---- waits

-- how many of a channel's first pops, or pushes, wait for no access of the other side, with these depths
abbrev pub free_with : List Channel → List ℕ → Side → ℕ → ℕ
free_with channels depths side c = if same_side side Push then slice_index depths c else free_of (channel_at channels c).kind side

-- with these depths the access waits for a pop or a push in the step at this place, or in a later one of its module, and becomes
-- possible `lag` clocks after it
pub record WaitsFor (channels : List Channel) (depths : List ℕ) (a : Access) (place : Place) (lag : ℕ) : Type 0 where
  pub blocks : is_blocking a.kind ≡ true
  pub fifo : IsFifo (channel_at channels a.channel).kind
  pub not_free : free_with channels depths (side_of a.kind) a.channel < a.ordinal
  pub event : Place
  pub enabler : slice_get (places_of (other_side (side_of a.kind)) (channel_at channels a.channel))
      (a.ordinal - suc (free_with channels depths (side_of a.kind) a.channel)) ≡ Some event
  pub same_module : event.module ≡ place.module
  pub no_earlier : place.step ≤ event.step
  pub its_lag : lag ≡ lag_of (channel_at channels a.channel).kind (side_of a.kind)

-- with these depths one of the accesses waits for the step at this place, or for a later one of its module, with this lag
pub record OneWaits (channels : List Channel) (depths : List ℕ) (accesses : List Access) (place : Place) (lag : ℕ) : Type 0 where
  pub number : ℕ
  pub access : Access
  pub among : slice_get accesses number ≡ Some access
  pub waits : WaitsFor channels depths access place lag

-- ---- paths

-- the clock of the step at a place; 0 where it has none
abbrev pub cycle_at : List Lane → Place → ℕ
cycle_at lanes place = slice_index_or (lane_at lanes place.module).cycles place.step 0

-- the place names a step that has a cycle
pub record IsTimedAt (lanes : List Lane) (place : Place) : Type 0 where
  pub owner : place.module < length lanes
  pub step : place.step < length (lane_at lanes place.module).steps
  pub timed : place.step < length (lane_at lanes place.module).cycles

-- with these depths the step at `to` is done at least `clocks` clocks after the step at `from`, or never
pub record ComesAfter (p : Plan) (h : Held) (depths : List ℕ) (from to : Place) (clocks : ℕ) : Type 0 where
  pub path : ℕ
  pub long : clocks ≤ path
  pub after : IsAfter (design p) (start_in (with_depths p depths)) (lockstep_run p) from.module (cycle_at h.lanes from)
      to.module (cycle_at h.lanes to) path

-- whatever step the step at `before` comes after, the step at `next` comes after it by `more` clocks more
abbrev pub ComesLater : Plan → Held → List ℕ → Place → Place → ℕ → Type 0
ComesLater p h depths before next more =
    (from : Place) (clocks : ℕ) → ComesAfter p h depths from before clocks → ComesAfter p h depths from next (clocks + more)

-- the place with this number in a path
abbrev pub nth_place : List Place → ℕ → Place
nth_place path k = slice_index_or path k (record { «module» = 0; step = 0 })

-- the first n places of the path name steps, each of which waits for the one before it, so that the last comes at least `clocks`
-- clocks after the first
pub record IsAlong (engine : Engine) (depths : List ℕ) (path : List Place) (n clocks : ℕ) : Type 0 where
  pub some : 1 ≤ n
  pub within : n ≤ length path
  pub first : IsTimedAt engine.graph.lanes (nth_place path 0)
  pub last : IsTimedAt engine.graph.lanes (nth_place path (n - 1))
  pub along : (p : Plan) → IsTried p engine depths
      → ComesAfter p (held_in engine) depths (nth_place path 0) (nth_place path (n - 1)) clocks

-- how many clocks after a step its module still moves, up to its end; 0 where the module has a next step
abbrev pub moves_after : List Lane → List (Option Advance) → Place → ℕ
moves_after lanes ends last =
    if nat_lt (last.step + 1) (length (lane_at lanes last.module).steps) then 0 else gap_of_end (end_at ends last.module) - 1
