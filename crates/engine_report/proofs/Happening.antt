-- The events are those of the theory's steps.
use Rattle.std.proofs.Common.{◌≡◌, refl, subst, ◌∙◌, ℕ, ◌<◌, List, [], ◌∷◌, map, length, drop, arith}
use Rattle.std.proofs.{lemmas.List.Elements.All-head, lemmas.List.Elements.All-tail, lemmas.List.Sorted.All-permutation}
use Rattle.std.specs.{Prelude.All, Prelude.IsPermutation, List.range_with_len, List.flat_map}
use Rattle.engine_report.specs.{Access, Plan, Reply, Request, EventLine, HistoryStep, requests_of, paired, events_of, lane_at, core_reply}
use Rattle.engine_report.specs.{design, told_all, core_step, steps_at, AreSorted, step_of, seen, core_of, IsSound, event_line, events_at}
use Rattle.engine_report.specs.{numbered_places, timed_places, AreEvents}
use Rattle.engine_view.specs.Held.{Held}
use Rattle.engine_view.proofs.Knowing.{timed_within}
use Rattle.engine_report.proofs.{Loops.all_mapped, Loops.all_given, Asking.same_kind, Asking.same_channel}
use Rattle.lockstep_defs.specs.Report as machine
use Rattle.timing_bridge.specs.Designs as bridge

-- ---- one step

told_events : (s : HistoryStep) (rs : List Request) (xs : List Access) (ys : List Reply) → map bridge.seen_request rs ≡ map seen xs
    → map (machine.event_of s) (paired rs ys) ≡ map (event_line s.module s.clock) xs
told_events s [] [] ys e = refl
told_events s (r ∷ rs) (a ∷ xs) ys e =
    let one : bridge.seen_request r ≡ seen a = cc in
    rw (same_kind r a one, same_channel r a one, told_events s rs xs (drop 1 ys) (cc)) refl
told_events s rs xs ys e = absurd cc

-- a place of a timed step
pub record IsTimed (h : Held) (place : ℕ × ℕ) : Type 0 where
  pub less : place.1 < length (lane_at h.lanes place.0).cycles

step_events : (p : Plan) (h : Held) → IsSound (design p) h → (place : ℕ × ℕ) → IsTimed h place
    → map (machine.event_of (core_step p (core_of (design p) h) place.0 place.1))
    (core_step p (core_of (design p) h) place.0 place.1).exchanges ≡ events_at h.lanes place
step_events p h s (i, k) t =
    let x = core_of (design p) h in
    let rs = requests_of p (i, x.state i k) in
    let l = t.less in
    let w = timed_within (design p) h s i in
    told_events (core_step p x i k) rs (step_of h i k).accesses (told_all rs (core_reply (design p) x i k)) (s.accesses i k (omega arith))

all_events : (p : Plan) (h : Held) → IsSound (design p) h → (places : List (ℕ × ℕ)) → All (IsTimed h) places
    → flat_map (events_at h.lanes) places ≡ events_of (steps_at p (core_of (design p) h) places)
all_events p h s [] all = refl
all_events p h s (a ∷ places) all =
    rw (step_events p h s a (All-head (IsTimed h) a places all), all_events p h s places (All-tail (IsTimed h) a places all)) refl

-- ---- all steps

pub all_timed : (h : Held) (a n : ℕ) → All (IsTimed h) (flat_map (numbered_places h.lanes) (range_with_len a n))
all_timed h a n = all_given (IsTimed h) (numbered_places h.lanes) a n (λ i l.
    all_mapped (IsTimed h) (λ (k : ℕ). (i, k)) (length (lane_at h.lanes i).cycles) (λ k less. record { less = less }))

pub events_are : (p : Plan) (h : Held) → IsSound (design p) h → (events : List EventLine) → AreEvents h.lanes events
    → (places : List (ℕ × ℕ)) × AreSorted p (core_of (design p) h) places × (events ≡ events_of (steps_at p (core_of (design p) h) places))
events_are p h s events e = (
  e.places,
  record {
    all = subst (λ (n : ℕ). IsPermutation (flat_map (numbered_places h.lanes) (range_with_len 0 n)) e.places) s.lanes e.all;
    sorted = e.sorted;
  },
  e.are ∙ all_events p h s e.places (All-permutation (IsTimed h) (timed_places h.lanes) e.places e.all (all_timed h 0 (length h.lanes))),
)
