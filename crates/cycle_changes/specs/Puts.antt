-- Puts: cycles that were put into lanes one after the other, and are taken back from there.
use Rattle.std.specs.Prelude.{◌≡◌, ℕ, suc, ◌<◌, List, [], ◌∷◌, length, drop, slice_get, slice_index, All, Option, Some, option_and_then}
use Rattle.flow_word.specs.{Place}
use Rattle.event_graph.specs.{Lane, IsSoundLane, lane_at, with_put}
use Rattle.engine_view.specs.{Engine}
use Rattle.cycle_changes.specs.{declared.changes.Put.Put, declared.draft.Draft.Draft, Moved.moved_in}

-- there is a step with a cycle at the place
pub record HasCycle (lanes : List Lane) (place : Place) : Type 0 where
  pub owner : place.module < length lanes
  pub there : place.step < length (lane_at lanes place.module).cycles

-- the lanes after the puts were taken back, the last put first
abbrev pub undone : List Put → List Lane → List Lane
undone [] lanes = lanes
undone (p ∷ ps) lanes = with_put (undone ps lanes) p.place p.old

-- the puts lead from the first lanes to the present ones, by way of sound lanes
pub record ArePut (first : List Lane) (puts : List Put) (now : List Lane) : Type 0 where
  pub back : undone puts now ≡ first
  pub sound : (k : ℕ) → All IsSoundLane (undone (drop k puts) now)
  pub timed : All (λ p. HasCycle now p.place) puts

-- the draft's cycle of the step at a place, if it has one
abbrev pub drafted : Draft → Place → Option ℕ
drafted draft place = option_and_then (λ lane. slice_get lane.items place.step) (slice_get draft.lanes.items place.module)

-- the puts gave each of their steps the draft's cycle; each put was of another step, and changed its cycle
pub record AreDrafted (draft : Draft) (first : List Lane) (puts : List Put) (now : List Lane) : Type 0 where
  pub put : ArePut first puts now
  pub drafts : All (λ p. drafted draft p.place ≡ Some (slice_index (lane_at now p.place.module).cycles p.place.step)) puts
  pub moved : moved_in first now ≡ length puts

-- the puts lead from the lanes of s to those of t, and all else is as it was
pub record HasPut (s : Engine) (puts : List Put) (t : Engine) : Type 0 where
  pub lanes : ArePut s.graph.lanes puts t.graph.lanes
  pub rooms : t.graph.rooms ≡ s.graph.rooms
  pub fifos : t.fifos ≡ s.fifos
  pub log : t.log ≡ s.log
  pub ends : t.ends ≡ s.ends
  pub credits : t.credits ≡ s.credits

-- the cycle lies between those of the step before and the step after
pub record IsFitting (cycles : List ℕ) (step cycle : ℕ) : Type 0 where
  pub before : (k : ℕ) → suc k ≡ step → slice_index cycles k < cycle
  pub next : suc step < length cycles → cycle < slice_index cycles (suc step)
