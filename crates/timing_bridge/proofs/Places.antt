-- The steps of a core that are sorted by cycles and modules stand in order.
use Rattle.std.proofs.{lemmas.Bool.Decides.nat_tests, lemmas.List.Elements.All-from_recursion, lemmas.List.Kept.AllPairs-cons}
use Rattle.std.proofs.{lemmas.List.Sorted.sum_by-IsPermutation, lemmas.List.Sums.sum_by-cons}
use Rattle.std.proofs.Common.{◌≡◌, ℕ, zero, suc, ◌+◌, ◌≤◌, ◌<◌, false, cond, ◌&&◌, ◌⊎◌, List, [], ◌∷◌, ◌++◌, map, length, get_or, eqb, refl}
use Rattle.std.proofs.Common.{sym, ◌∙◌, ap, ap₂, subst, arith, zero-add}
use Rattle.std.specs.Prelude.{IsSortedBy, AllPairs, flat_map, sum_by, ⊤}
use Rattle.std.specs.List.{AllByRecursion, range_with_len}
use Rattle.timing_bridge.specs.{Plan, ModuleState, steps_of, IsBefore, IsAgreed, design, lockstep_run, core_step, AreInOrder, core_places}
use Rattle.timing_bridge.specs.{comes_before, AreSorted, steps_at}
use Rattle.event_timing.specs.Core.{Core}
use Rattle.event_timing.proofs.Editing.{cycles_rise}

-- ---- numbers in order

-- how often a number stands in a list
abbrev times : ℕ → List ℕ → ℕ
times k [] = 0
times k (n ∷ ns) = cond (eqb n k) 1 0 + times k ns

times_below : (k a n : ℕ) → k < a → times k (range_with_len a n) ≡ 0
times_below k a zero l = refl
times_below k a (suc n) l = grind (arith, nat_tests, times_below k (a + 1) n (omega arith))

times_above : (k a n : ℕ) → a + n ≤ k → times k (range_with_len a n) ≡ 0
times_above k a zero l = refl
times_above k a (suc n) l = grind (arith, nat_tests, times_above k (a + 1) n (omega arith))

times_once : (k a n : ℕ) → times k (range_with_len a n) ≤ 1
times_once k a zero = omega arith
times_once k a (suc n) = grind (arith, nat_tests, times_below k (a + 1) n, times_once k (a + 1) n)

-- the list does not fall
abbrev Climbs : List ℕ → Type 0
Climbs [] = ⊤
Climbs (n ∷ ns) = AllByRecursion (λ m. n ≤ m) ns × Climbs ns

none_below : (k n : ℕ) (ns : List ℕ) → k < n → AllByRecursion (λ m. n ≤ m) ns → times k ns ≡ 0
none_below k n [] l h = refl
none_below k n (m ∷ ns) l (p, rest) = grind (arith, nat_tests, none_below k n ns l rest)

-- a list that does not fall and has the numbers of a range is that range
only_range : (ns : List ℕ) (a n : ℕ) → Climbs ns → ((k : ℕ) → times k ns ≡ times k (range_with_len a n)) → ns ≡ range_with_len a n
only_range [] a zero c f = refl
only_range [] a (suc n) c f = grind (arith, nat_tests, f a)
only_range (h ∷ ns) a zero c f = grind (arith, nat_tests, f h)
only_range (h ∷ ns) a (suc n) (c0, c1) f =
    let first = f h in
    let second = f a in
    let below = none_below a h ns in
    let same : h ≡ a = grind (arith, nat_tests, times_below h a (suc n)) in
    rw (same, only_range ns (a + 1) n c1 (λ k. grind (arith, f k))) refl

-- ---- places

-- how often the place of step k of module i stands in a list
abbrev is_at : ℕ → ℕ → ℕ × ℕ → ℕ
is_at i k a = cond (eqb a.0 i && eqb a.1 k) 1 0

abbrev at_place : ℕ → ℕ → List (ℕ × ℕ) → ℕ
at_place i k [] = 0
at_place i k (a ∷ as') = is_at i k a + at_place i k as'

at_place_is : (i k : ℕ) (places : List (ℕ × ℕ)) → sum_by (is_at i k) places ≡ at_place i k places
at_place_is i k [] = refl
at_place_is i k (a ∷ places) = sum_by-cons (is_at i k) a places ∙ ap (λ (n : ℕ). is_at i k a + n) (at_place_is i k places)

at_place_append : (i k : ℕ) (xs ys : List (ℕ × ℕ)) → at_place i k (xs ++ ys) ≡ at_place i k xs + at_place i k ys
at_place_append i k [] ys = sym (zero-add _)
at_place_append i k (a ∷ xs) ys = omega (arith, at_place_append i k xs ys)

is_at_here : (i k : ℕ) (a : ℕ × ℕ) → a.0 ≡ i → a.1 ≡ k → is_at i k a ≡ 1
is_at_here i k a e f = grind (arith, nat_tests)

row_here : (i k : ℕ) (ns : List ℕ) → at_place i k (map (λ q. (i, q)) ns) ≡ times k ns
row_here i k [] = refl
row_here i k (n ∷ ns) = grind (arith, nat_tests, row_here i k ns)

row_other : (i k j : ℕ) (ns : List ℕ) → (j ≡ i → ⊥) → at_place i k (map (λ q. (j, q)) ns) ≡ 0
row_other i k j [] e = refl
row_other i k j (n ∷ ns) e = grind (arith, nat_tests, row_other i k j ns e)

abbrev row : (ℕ → ℕ) → ℕ → List (ℕ × ℕ)
row count j = map (λ q. (j, q)) (range_with_len 0 (count j))

no_row : (count : ℕ → ℕ) (i k b c : ℕ) → (i < b) ⊎ (b + c ≤ i) → at_place i k (flat_map (row count) (range_with_len b c)) ≡ 0
no_row count i k b zero l = refl
no_row count i k b (suc c) l =
    let more = at_place_append i k (row count b) (flat_map (row count) (range_with_len (b + 1) c)) in
    grind (arith, row_other i k b (range_with_len 0 (count b)), no_row count i k (b + 1) c)

one_row : (count : ℕ → ℕ) (i k b c : ℕ) → b ≤ i → i < b + c
    → at_place i k (flat_map (row count) (range_with_len b c)) ≡ times k (range_with_len 0 (count i))
one_row count i k b zero l m = absurd (omega arith)
one_row count i k b (suc c) l m =
    let more = at_place_append i k (row count b) (flat_map (row count) (range_with_len (b + 1) c)) in
    let none = no_row count i k (b + 1) c in
    let later = one_row count i k (b + 1) c in
    grind (arith, row_other i k b (range_with_len 0 (count b)), row_here i k (range_with_len 0 (count i)))

-- ---- sorted places

module _ (x : Core ModuleState) where
  -- no later by cycles, and in one cycle by modules
  abbrev AtMost : ℕ × ℕ → ℕ × ℕ → Type 0
  AtMost a b = (x.cycle a.0 a.1 < x.cycle b.0 b.1) ⊎ ((x.cycle a.0 a.1 ≡ x.cycle b.0 b.1) × (a.0 ≤ b.0))

  abbrev Up : List (ℕ × ℕ) → Type 0
  Up [] = ⊤
  Up (a ∷ places) = AllByRecursion (AtMost a) places × Up places

  at_most : (a b : ℕ × ℕ) → comes_before x b a ≡ false → AtMost a b
  at_most a b e = grind (arith, nat_tests)

  at_most_trans : (a b c : ℕ × ℕ) → AtMost a b → AtMost b c → AtMost a c
  at_most_trans a b c l m = grind arith

  after_first : (a b : ℕ × ℕ) → AtMost a b → (places : List (ℕ × ℕ)) → AllByRecursion (AtMost b) places → AllByRecursion (AtMost a) places
  after_first a b f [] h = tt
  after_first a b f (c ∷ places) h = (at_most_trans a b c f h.0, after_first a b f places h.1)

  up : (places : List (ℕ × ℕ)) → IsSortedBy (comes_before x) places → Up places
  up [] h = tt
  up (a ∷ []) h = (tt, tt)
  up (a ∷ b ∷ places) h =
      let one : 0 + 1 ≡ 1 = omega arith in
      let first = at_most a b (subst (λ (n : ℕ). comes_before x (get_or (a ∷ b ∷ places) n a) a ≡ false) one
      (h 0 a (omega arith) (omega arith))) in
      let rest = up (b ∷ places) (λ k d l m.
      let next : suc k + 1 ≡ suc (k + 1) = omega arith in
      subst (λ (n : ℕ). comes_before x (get_or (a ∷ b ∷ places) n d) (get_or (b ∷ places) k d) ≡ false) next
      (h (suc k) d (omega arith) (omega arith))) in
      ((first, after_first a b first places rest.0), rest)

-- the numbers of a module's steps among the places
abbrev numbers : ℕ → List (ℕ × ℕ) → List ℕ
numbers i [] = []
numbers i (a ∷ places) = cond (eqb a.0 i) (a.1 ∷ numbers i places) (numbers i places)

numbers_times : (i k : ℕ) (places : List (ℕ × ℕ)) → times k (numbers i places) ≡ at_place i k places
numbers_times i k [] = refl
numbers_times i k (a ∷ places) = grind (arith, nat_tests, numbers_times i k places)

-- each of these places stands in the list
all_there : (all places : List (ℕ × ℕ)) → ((i k : ℕ) → at_place i k places ≤ at_place i k all)
    → AllByRecursion (λ a. 1 ≤ at_place a.0 a.1 all) places
all_there all [] f = tt
all_there all (a ∷ places) f = (
  omega (arith, f a.0 a.1, is_at_here a.0 a.1 a refl refl),
  all_there all places (λ i k. omega (arith, f i k)),
)

module _ (p : Plan) (limit : ℕ) (x : Core ModuleState) (g : IsAgreed (design p) (lockstep_run p) limit x) where
  -- each place is that of a step with a cycle, and stands there once
  abbrev AreTimed : List (ℕ × ℕ) → Type 0
  AreTimed places = (i k : ℕ) → at_place i k places ≤ times k (range_with_len 0 (x.timed i))

  counted : (i k : ℕ) → at_place i k (core_places p x) ≡ times k (range_with_len 0 (x.timed i))
  counted i k =
      let n : ℕ = length p.design.modules in
      grind (arith, one_row x.timed i k 0 n, no_row x.timed i k 0 n, g.time.within i, g.marks.inside i)

  timed_there : (places : List (ℕ × ℕ)) → AreTimed places → (i k : ℕ) → 1 ≤ at_place i k places → k < x.timed i
  timed_there places t i k l = grind (arith, t i k, times_above k 0 (x.timed i))

  -- places that are not later and not the same are steps in order
  strictly : (a b : ℕ × ℕ) → AtMost x a b → a.1 < x.timed a.0 → b.1 < x.timed b.0 → (b.0 ≡ a.0 → b.1 ≡ a.1 → ⊥)
      → IsBefore (core_step p x a.0 a.1) (core_step p x b.0 b.1)
  strictly a b u m n apart =
      let rise = cycles_rise (design p) (lockstep_run p) limit x g.time a.0 in
      grind (arith, rise b.1 a.1, rise a.1 b.1)

  later_first_one : (a : ℕ × ℕ) (all : List (ℕ × ℕ)) → AreTimed (a ∷ all) → (places : List (ℕ × ℕ)) → AllByRecursion (AtMost x a) places
      → AllByRecursion (λ b. 1 ≤ at_place b.0 b.1 all) places → AllByRecursion (IsBefore (core_step p x a.0 a.1)) (steps_at p x places)
  later_first_one a all t [] u h = tt
  later_first_one a all t (b ∷ places) u h =
      let there = h.0 in
      let one = is_at_here a.0 a.1 a refl refl in
      let apart : b.0 ≡ a.0 → b.1 ≡ a.1 → ⊥ = λ e f.
      let same = ap₂ (λ (i k : ℕ). at_place i k all) e f in
      omega (arith, t a.0 a.1, times_once a.1 0 (x.timed a.0)) in (
        strictly a b u.0 (timed_there (a ∷ all) t a.0 a.1 (omega arith)) (timed_there (a ∷ all) t b.0 b.1 (omega arith)) apart,
        later_first_one a all t places u.1 h.1,
      )

  rising : (places : List (ℕ × ℕ)) → Up x places → AreTimed places → AllPairs IsBefore (steps_at p x places)
  rising [] u t = λ i j d l m. absurd (omega arith)
  rising (a ∷ places) u t =
      AllPairs-cons IsBefore (core_step p x a.0 a.1) (steps_at p x places)
      (All-from_recursion _ (steps_at p x places) (later_first_one a places t places u.0 (all_there places places (λ i k. omega arith))))
      (rising places u.1 (λ i k. omega (arith, t i k)))

  steps_numbers : (i : ℕ) (places : List (ℕ × ℕ)) → steps_of i (steps_at p x places) ≡ map (core_step p x i) (numbers i places)
  steps_numbers i [] = refl
  steps_numbers i (a ∷ places) = grind (arith, nat_tests, steps_numbers i places)

  numbers_above : (i : ℕ) (a : ℕ × ℕ) → a.0 ≡ i → a.1 < x.timed a.0 → (places : List (ℕ × ℕ)) → AllByRecursion (AtMost x a) places
      → AllByRecursion (λ m. a.1 ≤ m) (numbers i places)
  numbers_above i a e l [] u = tt
  numbers_above i a e l (b ∷ places) (first, u) =
      let rise = cycles_rise (design p) (lockstep_run p) limit x g.time a.0 b.1 a.1 in
      grind (arith, nat_tests, numbers_above i a e l places u)

  numbers_climb : (i : ℕ) (places : List (ℕ × ℕ)) → Up x places → AreTimed places → Climbs (numbers i places)
  numbers_climb i [] u t = tt
  numbers_climb i (a ∷ places) (first, u) t =
      let rest = numbers_climb i places u (λ j k. omega (arith, t j k)) in
      let l = timed_there (a ∷ places) t a.0 a.1 (omega (arith, is_at_here a.0 a.1 a refl refl)) in
      grind (arith, nat_tests, λ (e : a.0 ≡ i). numbers_above i a e l places first)

  -- sorted places give the steps in order
  pub sorted_steps : (places : List (ℕ × ℕ)) → AreSorted p x places → AreInOrder p x (steps_at p x places)
  sorted_steps places s =
      let u = up x places s.sorted in
      let same : (i k : ℕ) → at_place i k places ≡ times k (range_with_len 0 (x.timed i)) = λ i k.
      sym (at_place_is i k places)
      ∙ (sum_by-IsPermutation (is_at i k) (core_places p x) places s.all ∙ (at_place_is i k (core_places p x) ∙ counted i k)) in
      let t : AreTimed places = λ i k. omega (arith, same i k) in
      record {
        rising = rising places u t;
        each = λ i. steps_numbers i places
            ∙ ap (map (core_step p x i))
            (only_range (numbers i places) 0 (x.timed i) (numbers_climb i places u t) (λ k. numbers_times i k places ∙ same i k));
      }
