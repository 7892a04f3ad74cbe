-- One step more, a later clock, and the end.
use Rattle.std.proofs.Common.{◌≡◌, ℕ, suc, ◌+◌, ◌<◌, ◌≤◌, List, [], ◌∷◌, ◌++◌, map, length, sym, ◌∙◌, ap, ap₂, arith, inl, inr, ◌⊎◌}
use Rattle.std.proofs.{lemmas.Bool.cases_eq, lemmas.Bool.cases_lt, lemmas.Bool.Decides.nat_tests}
use Rattle.std.proofs.lemmas.List.{length_push, get_or_append_left, get_or_push, get_or-set_same, get_or-set_other, get_or-replicate}
use Rattle.std.proofs.lemmas.List.{get_or_past, map-append, length-replicate, append-nil}
use Rattle.std.proofs.lemmas.List.Elements.{filter-append, All-weaker}
use Rattle.std.specs.Prelude.{◌≢◌, slice_index, slice_set, replicate, All, AllPairs, ◌==◌}
use Rattle.std.specs.List.{range_with_len}
use Rattle.flow_word.proofs.Ranges.{range_last}
use Rattle.engine_report.specs.{Plan, ModuleState, FitsEngine, clock_of, HistoryStep, history, IsBefore, steps_of, verdict, IsFinal}
use Rattle.engine_report.specs.{IsAgreed, design, lockstep_run, core_step, IsEarly, IsWalked}
use Rattle.event_timing.specs.Core.{Core}
use Rattle.timing_bridge.proofs.InOrder.{only_in_order, reported_history}

-- ---- lists with one element more

pairs_push : {X : Type 0} (R : X → X → Type 0) (xs : List X) (y : X) → AllPairs R xs → All (λ x. R x y) xs → AllPairs R (xs ++ y ∷ [])
pairs_push R xs y pairs all i j d l within =
    let long = length_push xs y in
    let low = get_or_append_left xs (y ∷ []) d i (omega arith) in
    elim (cases_lt j (length xs)) [
      | inl inside ↦ rw (low, get_or_append_left xs (y ∷ []) d j inside) (pairs i j d l inside)
      | inr at_end ↦ rw (low, get_or_push xs y d j (omega arith)) (all i d (omega arith))
    ]

all_push : {X : Type 0} (P : X → Type 0) (xs : List X) (y : X) → All P xs → P y → All P (xs ++ y ∷ [])
all_push P xs y all one k d within =
    let long = length_push xs y in
    elim (cases_lt k (length xs)) [
      | inl inside ↦ rw (get_or_append_left xs (y ∷ []) d k inside) (all k d inside)
      | inr at_end ↦ rw (get_or_push xs y d k (omega arith)) one
    ]

-- ---- the beginning

pub walk_begins : (p : Plan) (x : Core ModuleState) (n : ℕ) → IsWalked p x [] (replicate n 0) 0 0
walk_begins p x n = record {
  rising = λ i j d l within. absurd (omega arith);
  each = λ i. ap (λ (k : ℕ). map (core_step p x i) (range_with_len 0 k)) (sym (none_yet i));
  early = λ k d within. absurd (omega arith);
}
  where
    none_yet : (i : ℕ) → slice_index (replicate n 0) i ≡ 0
    none_yet i = elim (cases_lt i n) [
      | inl l ↦ get_or-replicate n i 0 0 l
      | inr l ↦ get_or_past (replicate n 0) i 0 (omega (arith, l, length-replicate {A = ℕ} n 0))
    ]

-- ---- one step more

module _ (p : Plan) (x : Core ModuleState) (done : List HistoryStep) (passed : List ℕ) (clock next i : ℕ) (w : IsWalked p x done passed
    clock next)
    (inside : i < length passed) (l : next ≤ i) (e : x.cycle i (slice_index passed i) ≡ clock) where
  abbrev step : HistoryStep
  step = core_step p x i (slice_index passed i)

  before : (s : HistoryStep) → IsEarly clock next s → IsBefore s step
  before s (inl less) = inl (omega arith)
  before s (inr (same, less)) = inr (same ∙ sym e, omega arith)

  earlier : (s : HistoryStep) → IsEarly clock next s → IsEarly clock (suc i) s
  earlier s (inl less) = inl less
  earlier s (inr (same, less)) = inr (same, omega arith)

  each_now : (j : ℕ) → steps_of j (done ++ step ∷ []) ≡ map (core_step p x j) (range_with_len 0 (slice_index (slice_set passed i
      (slice_index passed i + 1)) j))
  each_now j = filter-append (λ (s : HistoryStep). s.«module» == j) done (step ∷ []) ∙ by_module (cases_eq j i)
    where
      by_module : (j ≡ i) ⊎ (j ≢ i)
          → steps_of j done ++ steps_of j (step ∷ []) ≡ map (core_step p x j) (range_with_len 0 (slice_index (slice_set passed i
          (slice_index passed i + 1)) j))
      by_module (inl same) =
          let now : slice_index (slice_set passed i (slice_index passed i + 1)) j ≡ slice_index passed i + 1 =
          ap (slice_index (slice_set passed i (slice_index passed i + 1))) same ∙ get_or-set_same passed i (slice_index passed i + 1) 0
          inside in
          let one : steps_of j (step ∷ []) ≡ step ∷ [] = grind (arith, nat_tests) in
          let so_far : steps_of j done ≡ map (core_step p x i) (range_with_len 0 (slice_index passed i)) =
          ap (λ (k : ℕ). steps_of k done) same ∙ w.each i in
          ap₂ (λ (as' bs : List HistoryStep). as' ++ bs) so_far one
          ∙ (sym (map-append (core_step p x i) (range_with_len 0 (slice_index passed i)) (slice_index passed i ∷ []))
          ∙ (ap (map (core_step p x i)) (sym (range_last (slice_index passed i)))
          ∙ (ap (λ (k : ℕ). map (core_step p x k) (range_with_len 0 (slice_index passed i + 1))) (sym same)
          ∙ ap (λ (k : ℕ). map (core_step p x j) (range_with_len 0 k)) (sym now))))
      by_module (inr other) =
          let now : slice_index (slice_set passed i (slice_index passed i + 1)) j ≡ slice_index passed j =
          get_or-set_other passed i j (slice_index passed i + 1) 0 other in
          let none : steps_of j (step ∷ []) ≡ [] = grind (arith, nat_tests) in
          ap₂ (λ (as' bs : List HistoryStep). as' ++ bs) (w.each j) none
          ∙ (append-nil (map (core_step p x j) (range_with_len 0 (slice_index passed j)))
          ∙ ap (λ (k : ℕ). map (core_step p x j) (range_with_len 0 k)) (sym now))

  pub walk_passes : IsWalked p x (done ++ step ∷ []) (slice_set passed i (slice_index passed i + 1)) clock (suc i)
  walk_passes = record {
    rising = pairs_push IsBefore done step w.rising (All-weaker (IsEarly clock next) (λ s. IsBefore s step) before done w.early);
    each = each_now;
    early = all_push (IsEarly clock (suc i)) done step
        (All-weaker (IsEarly clock next) (IsEarly clock (suc i)) earlier done w.early) (inr (e, omega arith));
  }

-- ---- modules that are skipped, and a later clock

pub walk_skips : (p : Plan) (x : Core ModuleState) (done : List HistoryStep) (passed : List ℕ) (clock next further : ℕ)
    → IsWalked p x done passed clock next → next ≤ further → IsWalked p x done passed clock further
walk_skips p x done passed clock next further w l = record {
  rising = w.rising;
  each = w.each;
  early = All-weaker (IsEarly clock next) (IsEarly clock further) below done w.early;
}
  where
    below : (s : HistoryStep) → IsEarly clock next s → IsEarly clock further s
    below s (inl less) = inl less
    below s (inr (same, less)) = inr (same, omega arith)

pub walk_goes_on : (p : Plan) (x : Core ModuleState) (done : List HistoryStep) (passed : List ℕ) (clock next later : ℕ)
    → IsWalked p x done passed clock next → clock < later → IsWalked p x done passed later 0
walk_goes_on p x done passed clock next later w l = record {
  rising = w.rising;
  each = w.each;
  early = All-weaker (IsEarly clock next) (IsEarly later 0) below done w.early;
}
  where
    below : (s : HistoryStep) → IsEarly clock next s → IsEarly later 0 s
    below s (inl less) = inl (omega arith)
    below s (inr (same, less)) = inl (omega arith)

-- ---- the end

pub walk_ends : (p : Plan) → FitsEngine p → (x : Core ModuleState) → IsAgreed (design p) (lockstep_run p) p.cycles x
    → IsFinal (design p) p.cycles x → (done : List HistoryStep) (passed : List ℕ) (clock next : ℕ)
    → IsWalked p x done passed clock next → ((i : ℕ) → slice_index passed i ≡ x.timed i) → done ≡ history p (clock_of (verdict p))
walk_ends p fits x g f done passed clock next w all =
    only_in_order p fits p.cycles x g f done (record {
      rising = w.rising;
      each = λ i. w.each i ∙ ap (λ (k : ℕ). map (core_step p x i) (range_with_len 0 k)) (all i);
    })
    ∙ reported_history p
