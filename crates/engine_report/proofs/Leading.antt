-- What a walk has done begins the history, where all other steps come later.
use Rattle.std.proofs.Common.{◌≡◌, ℕ, zero, suc, ◌+◌, ◌-◌, ◌<◌, ◌≤◌, List, [], ◌∷◌, ◌++◌, map, length, sym, ◌∙◌, ap, ap₂, refl, arith, inl}
use Rattle.std.proofs.Common.{inr, ◌⊎◌, Bool, true, false, cond, get_or, eqb, leb, ltb, ◌||◌, ◌&&◌, length-append}
use Rattle.std.proofs.{lemmas.Bool.cases_lt, lemmas.Bool.Decides.nat_tests, lemmas.List.Kept.AllPairs-filter}
use Rattle.std.proofs.lemmas.List.{get_or_append_left, get_or-append_right, map-append}
use Rattle.std.proofs.lemmas.List.Elements.{filter-append, filter_passes, All-head, All-tail, All-weaker, All-filter}
use Rattle.std.specs.{Prelude.slice_index, Prelude.All, Prelude.AllPairs, Prelude.◌==◌, List.range_with_len, List.filter}
use Rattle.engine_report.specs.{Plan, ModuleState, FitsEngine, clock_of, HistoryStep, history, IsBefore, steps_of, verdict, IsFinal}
use Rattle.engine_report.specs.{IsAgreed, design, lockstep_run, core_step, IsEarly, IsWalked, AreLate}
use Rattle.event_timing.specs.Core.{Core}
use Rattle.timing_bridge.proofs.InOrder.{history_in_order, only_in_order, reported_history}

-- ---- lists

pairs_append : {X : Type 0} (R : X → X → Type 0) (xs ys : List X) → AllPairs R xs → AllPairs R ys
    → ((i j : ℕ) (d : X) → i < length xs → j < length ys → R (get_or xs i d) (get_or ys j d)) → AllPairs R (xs ++ ys)
pairs_append R xs ys left right across i j d l within =
    let long = length-append xs ys in
    elim (cases_lt j (length xs)) [
      | inl inside ↦ rw (get_or_append_left xs ys d i (omega arith), get_or_append_left xs ys d j inside) (left i j d l inside)
      | inr beyond ↦
          elim (cases_lt i (length xs)) [
            | inl first ↦ rw (get_or_append_left xs ys d i first, get_or-append_right xs ys (length xs) j d refl beyond)
                (across i (j - length xs) d first (omega arith))
            | inr later ↦ rw (get_or-append_right xs ys (length xs) i d refl later, get_or-append_right xs ys (length xs) j d refl beyond)
                (right (i - length xs) (j - length xs) d (omega arith) (omega arith))
          ]
    ]

filter_swap : {X : Type 0} (f g : X → Bool) (xs : List X) → filter f (filter g xs) ≡ filter g (filter f xs)
filter_swap f g [] = refl
filter_swap {X} f g (x ∷ xs) = by_tests (f x) (g x) refl refl (filter_swap f g xs)
  where
    by_tests : (a b : Bool) → f x ≡ a → g x ≡ b → filter f (filter g xs) ≡ filter g (filter f xs)
        → filter f (cond b (x ∷ filter g xs) (filter g xs)) ≡ filter g (cond a (x ∷ filter f xs) (filter f xs))
    by_tests true true e q rest =
        ap (λ (t : Bool). cond t (x ∷ filter f (filter g xs)) (filter f (filter g xs))) e
        ∙ (ap (λ (l : List X). x ∷ l) rest
        ∙ sym (ap (λ (t : Bool). cond t (x ∷ filter g (filter f xs)) (filter g (filter f xs))) q))
    by_tests true false e q rest =
        rest ∙ sym (ap (λ (t : Bool). cond t (x ∷ filter g (filter f xs)) (filter g (filter f xs))) q)
    by_tests false true e q rest = ap (λ (t : Bool). cond t (x ∷ filter f (filter g xs)) (filter f (filter g xs))) e ∙ rest
    by_tests false false e q rest = rest

filter_none : {X : Type 0} (f : X → Bool) (xs : List X) → All (λ (x : X). f x ≡ false) xs → filter f xs ≡ []
filter_none f [] none = refl
filter_none {X} f (x ∷ xs) none =
    ap (λ (t : Bool). cond t (x ∷ filter f xs) (filter f xs)) (All-head (λ (y : X). f y ≡ false) x xs none)
    ∙ filter_none f xs (All-tail (λ (y : X). f y ≡ false) x xs none)

filter_mapped : {X : Type 0} (f : X → Bool) (g : ℕ → X) (a n : ℕ) → ((k : ℕ) → a ≤ k → k < a + n → f (g k) ≡ true)
    → filter f (map g (range_with_len a n)) ≡ map g (range_with_len a n)
filter_mapped f g a zero all = refl
filter_mapped {X} f g a (suc n) all =
    ap (λ (t : Bool). cond t (g a ∷ filter f (map g (range_with_len (a + 1) n))) (filter f (map g (range_with_len (a + 1) n))))
    (all a (omega arith) (omega arith))
    ∙ ap (λ (l : List X). g a ∷ l) (filter_mapped f g (a + 1) n (λ k l m. all k (omega arith) (omega arith)))

range_split : (a n m : ℕ) → range_with_len a (n + m) ≡ range_with_len a n ++ range_with_len (a + n) m
range_split a zero m = ap₂ range_with_len (omega arith) (omega arith)
range_split a (suc n) m =
    let here : suc n + m ≡ suc (n + m) = omega arith in
    let there : (a + 1) + n ≡ a + suc n = omega arith in
    ap (range_with_len a) here ∙ ap (λ (l : List ℕ). a ∷ l) (range_split (a + 1) n m ∙ ap (λ (j : ℕ). range_with_len (a + 1) n ++
    range_with_len j m) there)

-- ---- late steps, as a test

abbrev is_late : ℕ → ℕ → HistoryStep → Bool
is_late clock next s = ltb clock s.clock || (eqb clock s.clock && leb next s.«module»)

abbrev IsLate : ℕ → ℕ → HistoryStep → Type 0
IsLate clock next s = (clock < s.clock) ⊎ ((clock ≡ s.clock) × (next ≤ s.«module»))

early_no : (clock next : ℕ) (s : HistoryStep) → IsEarly clock next s → is_late clock next s ≡ false
early_no clock next s (inl less) = grind (arith, nat_tests)
early_no clock next s (inr (same, less)) = grind (arith, nat_tests)

late_yes : (clock next : ℕ) (s : HistoryStep) → IsLate clock next s → is_late clock next s ≡ true
late_yes clock next s (inl less) = grind (arith, nat_tests)
late_yes clock next s (inr (same, less)) = grind (arith, nat_tests)

late_is : (clock next : ℕ) (s : HistoryStep) → is_late clock next s ≡ true → IsLate clock next s
late_is clock next s e =
    elim (cases_lt clock s.clock) [
      | inl after ↦ inl after
      | inr most ↦
          elim (cases_lt s.clock clock) [
            | inl before ↦ (let no = early_no clock next s (inl before) in cc)
            | inr least ↦
                elim (cases_lt s.«module» next) [
                  | inl less ↦ (let no = early_no clock next s (inr (omega arith, less)) in cc)
                  | inr more ↦ inr (omega arith, more)
                ]
          ]
    ]

in_turn : (clock next : ℕ) (s t : HistoryStep) → IsEarly clock next s → IsLate clock next t → IsBefore s t
in_turn clock next s t (inl less) (inl more) = inl (omega arith)
in_turn clock next s t (inl less) (inr (same, more)) = inl (omega arith)
in_turn clock next s t (inr (e, less)) (inl more) = inl (omega arith)
in_turn clock next s t (inr (e, less)) (inr (same, more)) = inr (omega arith, omega arith)

-- ---- the rest

module _ (p : Plan) (fits : FitsEngine p) (x : Core ModuleState) (g : IsAgreed (design p) (lockstep_run p) p.cycles x)
    (f : IsFinal (design p) p.cycles x) (done : List HistoryStep) (passed : List ℕ) (clock next : ℕ)
    (w : IsWalked p x done passed clock next) (few : (i : ℕ) → slice_index passed i ≤ x.timed i) (late : AreLate x passed clock next) where
  abbrev all : List HistoryStep
  all = history p p.cycles

  abbrev rest : List HistoryStep
  rest = filter (is_late clock next) all

  abbrev step : ℕ → ℕ → HistoryStep
  step i = core_step p x i

  none_late : (i : ℕ) → filter (is_late clock next) (map (step i) (range_with_len 0 (slice_index passed i))) ≡ []
  none_late i =
      ap (filter (is_late clock next)) (sym (w.each i))
      ∙ filter_none (is_late clock next) (steps_of i done)
      (All-weaker (IsEarly clock next) (λ s. is_late clock next s ≡ false) (early_no clock next) (steps_of i done)
      (All-filter (λ (s : HistoryStep). s.«module» == i) (IsEarly clock next) done w.early))

  others_late : (i : ℕ)
      → filter (is_late clock next) (map (step i) (range_with_len (0 + slice_index passed i) (x.timed i - slice_index passed i)))
      ≡ map (step i) (range_with_len (0 + slice_index passed i) (x.timed i - slice_index passed i))
  others_late i =
      filter_mapped (is_late clock next) (step i) (0 + slice_index passed i) (x.timed i - slice_index passed i)
      (λ k l m. late_yes clock next (step i k) (late i k (omega arith) (let n = few i in omega arith)))

  whole : (i : ℕ) → steps_of i (done ++ rest) ≡ map (step i) (range_with_len 0 (x.timed i))
  whole i =
      let a = slice_index passed i in
      let b = x.timed i - slice_index passed i in
      let sum : a + b ≡ x.timed i = let n = few i in omega arith in
      let parts = ap (map (step i)) (ap (range_with_len 0) (sym sum) ∙ range_split 0 a b)
      ∙ map-append (step i) (range_with_len 0 a) (range_with_len (0 + a) b) in
      filter-append (λ (s : HistoryStep). s.«module» == i) done rest
      ∙ (ap₂ (λ (xs ys : List HistoryStep). xs ++ ys) (w.each i)
      (filter_swap (λ (s : HistoryStep). s.«module» == i) (is_late clock next) all
      ∙ (ap (filter (is_late clock next)) ((history_in_order p fits p.cycles x g f).each i ∙ parts)
      ∙ (filter-append (is_late clock next) (map (step i) (range_with_len 0 a)) (map (step i) (range_with_len (0 + a) b))
      ∙ ap₂ (λ (xs ys : List HistoryStep). xs ++ ys) (none_late i) (others_late i))))
      ∙ sym parts)

  pub walk_leads : (more : List HistoryStep) × (done ++ more ≡ history p (clock_of (verdict p)))
  walk_leads = (
    rest,
    only_in_order p fits p.cycles x g f (done ++ rest) (record {
      rising = pairs_append IsBefore done rest w.rising
          (AllPairs-filter IsBefore (is_late clock next) all (history_in_order p fits p.cycles x g f).rising)
          (λ i j d l m. in_turn clock next (get_or done i d) (get_or rest j d) (w.early i d l)
          (late_is clock next (get_or rest j d) (filter_passes (is_late clock next) all j d m)));
      each = whole;
    })
        ∙ reported_history p,
  )
