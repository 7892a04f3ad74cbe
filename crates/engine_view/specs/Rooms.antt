-- Room for the pushes, pops and outcomes of further steps.
use Rattle.std.specs.Prelude.{◌≡◌, ◌≢◌, ℕ, ◌+◌, ◌-◌, ◌*◌, ◌^◌, ◌<◌, ◌≤◌, Bool, true, cond, not, eqb, ◌&&◌, ◌||◌, List, [], ◌∷◌, length}
use Rattle.std.specs.Prelude.{drop, slice_get, slice_index, slice_set, All, Some}
use Rattle.flow_design.specs.{Advance}
use Rattle.flow_word.specs.{side_of, is_blocking, is_taking, UsesPlace, Access, Port, Side, Step}
use Rattle.flow_word.specs.declared.access.Side.TheVariants.{Pop, Push}
use Rattle.event_graph.specs.{lane_at, with_step, IsSoundStep, IsSoundLane}
use Rattle.fifo_table.specs.{Channel, AreAllOf, channel_at, places_of, RoomedChannels}
use Rattle.query_log.specs.{log_at}
use Rattle.time_engine.specs.{IsAccess}
use Rattle.event_timing.specs.{Design, Core.Core}
use Rattle.engine_view.specs.Held.{Held, emitted_of, possible_by, core_of}
use Rattle.engine_view.specs.{Shown.queries_before, declared.engine.Engine.Engine, Engines.held_in, Taking.taken_all, Taking.kinds_in}
use Rattle.engine_view.specs.Emitted.{done_at_once, place_of}

-- ---- the accesses of a step

-- how many further pops, or pushes, a channel takes without asking for memory
abbrev pub room_of : RoomedChannels → Side → ℕ → ℕ
room_of t Pop c = slice_index t.pop_rooms c
room_of t Push c = slice_index t.push_rooms c

-- the access pops, or pushes, at this side of the channel when it is done
pub record TakesAt (side : Side) (c : ℕ) (a : Access) : Type 0 where
  pub taking : is_taking a.kind ≡ true
  pub same_side : side ≡ side_of a.kind
  pub same_channel : c ≡ a.channel

-- no two of these accesses take at the same side of the same channel
abbrev pub TakeOncePerPort : List Access → Type 0
TakeOncePerPort [] = Unit {0}
TakeOncePerPort (a ∷ as') = All (λ b. is_taking a.kind ≡ true → TakesAt (side_of a.kind) a.channel b → ⊥) as' × TakeOncePerPort as'

-- there is room for each of these accesses that takes
abbrev pub HasRoomFor : RoomedChannels → List Access → Type 0
HasRoomFor t accesses = All (λ a. is_taking a.kind ≡ true → 0 < room_of t (side_of a.kind) a.channel) accesses

-- all pops, or pushes, so far at the ports of these accesses are of module m
abbrev pub StandAtOwn : ℕ → List Channel → List Access → Type 0
StandAtOwn m channels accesses = All (λ a. AreAllOf m (places_of (side_of a.kind) (channel_at channels a.channel))) accesses

-- which of these accesses are done: with `later` the queries that were possible by these outcomes, else those that block
abbrev pub done_by : Bool → List Access → List Bool → List Bool
done_by later [] outcomes = []
done_by later (a ∷ as') outcomes =
    cond (is_blocking a.kind) (not later) (later && possible_by a.kind (slice_get outcomes 0))
    ∷ done_by later as' (cond (is_blocking a.kind) outcomes (drop 1 outcomes))

-- a step of module m with these accesses uses at most one place of its lane, and at most one at each port at which one of them
-- takes
pub record UsesRoom (m : ℕ) (accesses : List Access) (lanes lanes_left : List ℕ) (table table_left : RoomedChannels) : Type 0 where
  pub place : UsesPlace m lanes lanes_left
  pub one : (side : Side) (c : ℕ) → room_of table side c ≤ room_of table_left side c + 1
  pub others : (side : Side) (c : ℕ) → All (λ a. TakesAt side c a → ⊥) accesses → room_of table side c ≤ room_of table_left side c

-- ---- further steps

-- a bound for the queries of a module, so that their numbers fit 64 bits
abbrev pub query_bound : ℕ
query_bound = 2 ^ 62

-- 1 where module m's newest step waits for outcomes, else 0
unfoldable pub pending : {S : Type 0} → Core S → ℕ → ℕ
pending {S} x m = cond (eqb (x.emitted m) 0 || x.answered m (x.emitted m - 1)) 0 1

-- a module's credit is how many more places its steps may take at each of its ports, two for a step; besides there is room for what
-- its newest step may still take, and for that step's outcomes
pub record HasRoom {S : Type 0} (d : Design S) (h : Held) (lanes : List ℕ) (table : RoomedChannels) (logs credits : List ℕ) : Type 0 where
  pub ends : (side : Side) (c : ℕ) → c < length h.channels
      → slice_index credits (d.owner side c) + pending (core_of d h) (d.owner side c) ≤ room_of table side c
  pub steps : (m : ℕ) → slice_index credits m ≤ 2 * slice_index lanes m
  pub outcomes : (m : ℕ) → queries_before h m (emitted_of h m) ≤ slice_index logs m + length (log_at h.logs m).outcomes
  pub few : (m : ℕ) → queries_before h m (emitted_of h m) < query_bound

-- an engine has the room that its modules' credits promise
abbrev pub IsRoomy : {S : Type 0} → Design S → Engine → Type 0
IsRoomy {S} d e = HasRoom d (held_in e) e.graph.rooms e.fifos e.log.rooms e.credits.items

-- the list has each port of module m on the first `channels` channels
abbrev pub AreAllPorts : {S : Type 0} → Design S → ℕ → ℕ → List Port → Type 0
AreAllPorts {S} d m channels ports = (port : Port) → port.channel < channels → d.owner port.side port.channel ≡ m
    → (i : ℕ) × (slice_get ports i ≡ Some port)

-- ---- engines with more room, or one more step

-- the engine has a module with this number
pub record EngineHasModule (e : Engine) (m : ℕ) : Type 0 where
  pub lane : m < length e.graph.lanes
  pub log : m < length e.log.logs
  pub credit : m < length e.credits.items

-- the engines differ at most in room and in module m's credit
pub record IsSameButRoom (m : ℕ) (e f : Engine) : Type 0 where
  pub lanes : f.graph.lanes ≡ e.graph.lanes
  pub channels : f.fifos.channels ≡ e.fifos.channels
  pub logs : f.log.logs ≡ e.log.logs
  pub ends : f.ends ≡ e.ends
  pub count : length f.credits.items ≡ length e.credits.items
  pub other_credits : (n : ℕ) → n ≢ m → slice_index f.credits.items n ≡ slice_index e.credits.items n

-- each of module m's accesses is of a channel of the table, and there is room for those that take
pub record CanTake (m : ℕ) (t : RoomedChannels) (accesses : List Access) : Type 0 where
  pub inside : All (IsAccess t.channels) accesses
  pub own : StandAtOwn m t.channels accesses
  pub apart : TakeOncePerPort accesses
  pub room : HasRoomFor t accesses

-- the step can come next in module m's lane, and there is room for it
pub record CanEmit (e : Engine) (m : ℕ) (step : Step) : Type 0 where
  pub owner : EngineHasModule e m
  pub sound : IsSoundStep step
  pub after : 0 < length (lane_at e.graph.lanes m).steps → 1 ≤ step.gap
  pub takes : CanTake m e.fifos step.accesses
  pub lane_room : 0 < slice_index e.graph.rooms m
  pub few : step.first_query < query_bound

-- the step was emitted, with the pushes and pops of its blocking accesses, and used two of module m's credit, or what was left of it
pub record HasEmitted (e : Engine) (m : ℕ) (step : Step) (f : Engine) : Type 0 where
  pub lanes : f.graph.lanes ≡ with_step e.graph.lanes m step
  pub sound : All IsSoundLane f.graph.lanes
  pub channels : f.fifos.channels
      ≡ taken_all (place_of m (length (lane_at e.graph.lanes m).steps)) e.fifos.channels step.accesses (done_at_once step.accesses)
  pub kinds : kinds_in f.fifos.channels ≡ kinds_in e.fifos.channels
  pub log : f.log ≡ e.log
  pub ends : f.ends ≡ e.ends
  pub credits : f.credits.items ≡ slice_set e.credits.items m (slice_index e.credits.items m - 2)
  pub room : UsesRoom m step.accesses e.graph.rooms f.graph.rooms e.fifos f.fifos

-- module m's end mark was emitted, and nothing else has changed
pub record HasEmittedEnd (e : Engine) (m : ℕ) (end : Advance) (f : Engine) : Type 0 where
  pub graph : f.graph ≡ e.graph
  pub fifos : f.fifos ≡ e.fifos
  pub log : f.log ≡ e.log
  pub ends : f.ends.items ≡ slice_set e.ends.items m (Some end)
  pub credits : f.credits ≡ e.credits
