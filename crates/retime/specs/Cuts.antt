-- The cut from which a retiming begins.
use Rattle.std.specs.Prelude.{◌≡◌, ℕ, ◌<◌, ◌≤◌, min, List, [], length, map, slice_index, All}
use Rattle.flow_design.specs.{Edit}
use Rattle.event_graph.specs.{Lane, IsSoundLane, lane_at, timed_below}
use Rattle.fifo_table.specs.{deepened_channels}
use Rattle.query_log.specs.{Log, log_at}
use Rattle.outcome_guard.specs.{Guard}
use Rattle.event_timing.specs.{edited, after_edit}
use Rattle.engine_view.specs.{Held.Held, step_of, emitted_of, core_of, queries_before, IsRoomy, Engine, held_in, OfEach}
use Rattle.retime.specs.Rounds.{LeadsAll, HasEnded}

-- what is held, with lanes alone
abbrev pub only_lanes : List Lane → Held
only_lanes lanes = record { lanes = lanes; channels = []; logs = []; over = [] }

-- how many queries module m's steps with a cycle have
abbrev pub timed_queries : List Lane → ℕ → ℕ
timed_queries lanes m = queries_before (only_lanes lanes) m (length (lane_at lanes m).cycles)

-- a module's log with only the outcomes of its steps with a cycle verified, as far as they were
abbrev pub assumed : List Lane → ℕ → Log → Log
assumed lanes m log = record log { verified = min (timed_queries lanes m) log.verified }

-- in the first `many` modules the outcomes of steps without a cycle are assumed, and the other logs are as they were
pub record AreAssumed (lanes : List Lane) (old now : List Log) (many : ℕ) : Type 0 where
  pub count : length now ≡ length old
  pub done : (m : ℕ) → m < many → log_at now m ≡ assumed lanes m (log_at old m)
  pub rest : (m : ℕ) → many ≤ m → log_at now m ≡ log_at old m

-- each step tells how many queries came before it, and no module has more verified outcomes than queries
pub record AreNumbered (lanes : List Lane) (logs : List Log) : Type 0 where
  pub first : (m k : ℕ) → k < emitted_of (only_lanes lanes) m
      → (step_of (only_lanes lanes) m k).first_query ≡ queries_before (only_lanes lanes) m k
  pub most : (m : ℕ) → (log_at logs m).verified ≤ queries_before (only_lanes lanes) m (emitted_of (only_lanes lanes) m)

-- the depth is the edit's, the cycles from this clock on are forgotten, and the outcomes of all steps without a cycle are assumed
pub record IsCutBack (old new : Engine) (edit : Edit) (clock : ℕ) : Type 0 where
  pub lanes : new.graph.lanes ≡ map (timed_below clock) old.graph.lanes
  pub sound : All IsSoundLane new.graph.lanes
  pub channels : new.fifos.channels ≡ deepened_channels old.fifos.channels edit.channel edit.depth
  pub logs : AreAssumed new.graph.lanes old.log.logs new.log.logs (length old.log.logs)
  pub lane_rooms : (m : ℕ) → slice_index old.graph.rooms m ≤ slice_index new.graph.rooms m
  pub push_rooms : new.fifos.push_rooms ≡ old.fifos.push_rooms
  pub pop_rooms : new.fifos.pop_rooms ≡ old.fifos.pop_rooms
  pub log_rooms : new.log.rooms ≡ old.log.rooms
  pub ends : new.ends ≡ old.ends
  pub credits : new.credits ≡ old.credits

-- for each design of which the old engine is a core: actions lead from its core after the edit, cut back at clock t, to the new
-- engine's core
abbrev pub HasRetimed : Guard → Edit → ℕ → ℕ → Engine → Engine → Type 0
HasRetimed guard edit t limit old new =
    OfEach old (λ d.
    LeadsAll (edited d edit.channel edit.depth) limit (after_edit d (core_of d (held_in old)) t) (held_in new)
    × HasEnded guard (edited d edit.channel edit.depth) limit (held_in new))

-- the end marks and the credits stay, and the room that the credits promise is there for the edited design
pub record KeepsRoomEdited (edit : Edit) (old new : Engine) : Type 0 where
  pub ends : new.ends ≡ old.ends
  pub credits : new.credits ≡ old.credits
  pub room : OfEach old (λ d. IsRoomy d old → IsRoomy (edited d edit.channel edit.depth) new)
