-- What is held is a core of a design: the lanes have the accesses of the states with their ordinals, the table has the pushes and
-- pops of the steps, and the log has their outcomes.
use Rattle.std.specs.Prelude.{◌≡◌, ℕ, zero, suc, ◌+◌, ◌<◌, ◌≤◌, true, false, List, map, length, get_or, All}
use Rattle.flow_word.specs.{side_of, Side, Access, Place, declared.access.Side.TheVariants.Pop, declared.access.Side.TheVariants.Push}
use Rattle.event_graph.specs.{IsSoundLane}
use Rattle.fifo_table.specs.{TableChannel, channel_at, places_of, lag_of}
use Rattle.fifo_table.specs.declared.channel.TableChannel.TheVariants.{Source, Sink, Fifo}
use Rattle.query_log.specs.{IsSoundLog, log_at}
use Rattle.time_engine.specs.{HasAccesses, HasPlaces}
use Rattle.event_timing.specs.{Design, core_accesses, core_tally, core_values, Core.Core}
use Rattle.engine_view.specs.Held.{Held, step_of, emitted_of, seen, queries_in, values_at, core_of}

-- ---- channels

-- a channel of this kind is the design's channel c
abbrev pub IsKind : {S : Type 0} → Design S → ℕ → TableChannel → Type 0
IsKind {S} d c (Source inputs) = (d.start Pop c ≡ length inputs) × (d.closed Pop c ≡ true)
IsKind {S} d c Sink = d.unlimited Push c ≡ true
IsKind {S} d c (Fifo depth delay) = (d.unlimited Push c ≡ false) × (d.start Push c ≡ depth) × (d.start Pop c ≡ 0) × ((side : Side)
    → d.closed side c ≡ false)

-- ---- pushes and pops

-- the place is that of the step that pops (or pushes) channel c after i earlier pops (or pushes)
pub record IsTakenAt {S : Type 0} (d : Design S) (x : Core S) (side : Side) (c i : ℕ) (place : Place) : Type 0 where
  pub owner : place.module ≡ d.owner side c
  pub emitted : place.step < x.emitted (d.owner side c)
  pub from : core_tally d x (d.owner side c) side c place.step ≤ i
  pub to : i < core_tally d x (d.owner side c) side c (suc place.step)

-- these are the places of all pops (or pushes) of channel c, in order
pub record AreTaken {S : Type 0} (d : Design S) (x : Core S) (side : Side) (c : ℕ) (places : List Place) : Type 0 where
  pub count : length places ≡ core_tally d x (d.owner side c) side c (x.emitted (d.owner side c))
  pub each : (i : ℕ) (e : Place) → i < length places → IsTakenAt d x side c i (get_or places i e)

-- ---- queries

-- how many queries a module has in its first k steps
unfoldable pub queries_before : Held → ℕ → ℕ → ℕ
queries_before h m zero = 0
queries_before h m (suc k) = queries_before h m k + queries_in (step_of h m k).accesses

-- module m's first n queries are those of whole steps
pub record AreWhole (h : Held) (m n : ℕ) : Type 0 where
  pub steps : ℕ
  pub within : steps ≤ emitted_of h m
  pub all : n ≡ queries_before h m steps

-- ---- what is held shows the core

pub record ShowsCore {S : Type 0} (d : Design S) (h : Held) (x : Core S) : Type 0 where
  pub lanes : length h.lanes ≡ d.modules
  pub logs : length h.logs ≡ d.modules
  pub overs : length h.over ≡ d.modules
  pub sound_lanes : All IsSoundLane h.lanes
  pub sound_logs : All IsSoundLog h.logs
  pub inside : HasAccesses h.lanes h.channels
  pub places : HasPlaces h.lanes h.channels
  -- each step has its accesses, each with its ordinal, and the number of its first query
  pub accesses : (m k : ℕ) → k < x.emitted m → core_accesses d x m k ≡ map seen (step_of h m k).accesses
  pub ordinals : (m k : ℕ) → k < x.emitted m
      → All (λ (a : Access). a.ordinal ≡ suc (core_tally d x m (side_of a.kind) a.channel k)) (step_of h m k).accesses
  pub first_query : (m k : ℕ) → k < x.emitted m → (step_of h m k).first_query ≡ queries_before h m k
  -- each channel has its kind, its lags, its pushes and pops, and its values
  pub kinds : (c : ℕ) → c < length h.channels → IsKind d c (channel_at h.channels c).kind
  pub lags : (side : Side) (c : ℕ) → c < length h.channels → d.lag side c ≡ lag_of (channel_at h.channels c).kind side
  pub taken : (side : Side) (c : ℕ) → c < length h.channels → AreTaken d x side c (places_of side (channel_at h.channels c))
  pub values : (c : ℕ) → c < length h.channels → values_at h.channels c ≡ core_values d x c
  -- outcomes are recorded, and verified, for whole steps
  pub recorded : (m : ℕ) → m < length h.logs → AreWhole h m (length (log_at h.logs m).outcomes)
  pub verified : (m : ℕ) → m < length h.logs → AreWhole h m (log_at h.logs m).verified

-- what is held is a core of the design
abbrev pub IsSound : {S : Type 0} → Design S → Held → Type 0
IsSound {S} d h = ShowsCore d h (core_of d h)
