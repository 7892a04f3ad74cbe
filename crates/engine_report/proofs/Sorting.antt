-- The steps with a cycle are sorted by their keys.
use Rattle.std.proofs.Common.{◌≡◌, refl, sym, ap, subst, ◌∙◌, ℕ, zero, suc, ◌+◌, ◌<◌, false, List, map, length, get_or, arith}
use Rattle.std.proofs.{lemmas.Bool.Decides.nat_tests, lemmas.List.length-map, lemmas.List.get_or-map, lemmas.List.map-append}
use Rattle.std.proofs.{lemmas.Simd.map-map, lemmas.List.Sorted.IsPermutation-map, lemmas.List.Sorted.All-permutation}
use Rattle.std.specs.{Prelude.All, Prelude.IsPermutation, List.Sorted.IsSorted, List.range_with_len, List.flat_map, Ordering.is_lt}
use Rattle.std.specs.{Ordering.nat_cmp, Ordering.ordering_then, Cmp.nat_cmp_is, declared.cmp.Ordering.Ordering}
use Rattle.std.specs.declared.cmp.Ordering.TheVariants.{Less, Equal}
use Rattle.engine_report.specs.{Lane, lane_at, no_lane, IsSoundLane, TimedStep, is_step_before, owners, numbered_places, key_of, keys_of}
use Rattle.engine_report.specs.{step_place, HasKey, AreSortedKeys}
use Rattle.engine_report.proofs.Loops.{all_mapped, all_given}

-- by cycle, then by module, then by number
abbrev key_cmp : TimedStep → TimedStep → Ordering
key_cmp a b = ordering_then (nat_cmp a.cycle b.cycle) (ordering_then (nat_cmp a.module b.module) (nat_cmp a.step b.step))

-- ---- each has its key

all_keys : (lanes : List Lane) → All IsSoundLane lanes → All (HasKey lanes) (flat_map (keys_of lanes) (owners lanes))
all_keys lanes sound = all_given (HasKey lanes) (keys_of lanes) 0 (length lanes) (λ i inside.
    all_mapped (HasKey lanes) (key_of lanes i) (length (lane_at lanes i).cycles) (λ k less.
    let prefix = (sound i no_lane (omega arith)).prefix in
    record { there = record { owner = omega arith; step = omega arith }; cycle = refl }))

-- ---- they are the places

places_in : (lanes : List Lane) (a n : ℕ)
    → map step_place (flat_map (keys_of lanes) (range_with_len a n)) ≡ flat_map (numbered_places lanes) (range_with_len a n)
places_in lanes a zero = refl
places_in lanes a (suc n) =
    rw (
      map-append step_place (keys_of lanes a) (flat_map (keys_of lanes) (range_with_len (a + 1) n)),
      places_in lanes (a + 1) n,
      map-map step_place (key_of lanes a) (range_with_len 0 (length (lane_at lanes a).cycles)),
    ) refl

-- ---- the order

less_is : (x y : ℕ) → x < y → nat_cmp x y ≡ Less
less_is x y l = sym (nat_cmp_is x y Less l)

equal_is : (x y : ℕ) → x ≡ y → nat_cmp x y ≡ Equal
equal_is x y e = sym (nat_cmp_is x y Equal e)

not_before : (lanes : List Lane) (a b : TimedStep) → HasKey lanes a → HasKey lanes b → is_lt (key_cmp a b) ≡ false
    → is_step_before lanes (step_place a) (step_place b) ≡ false
not_before lanes a b ka kb e =
    let at_a = ka.cycle in
    let at_b = kb.cycle in
    let earlier = less_is a.cycle b.cycle in
    let together = equal_is a.cycle b.cycle in
    let first = less_is a.module b.module in
    grind (arith, nat_tests)

pub sorted_keys : (lanes : List Lane) (old new : List TimedStep) → All IsSoundLane lanes
    → old ≡ flat_map (keys_of lanes) (range_with_len 0 (length lanes)) → IsPermutation old new → IsSorted key_cmp new
    → AreSortedKeys lanes new
sorted_keys lanes old new sound is moved sorted =
    let each = All-permutation (HasKey lanes) old new moved
    (subst (All (HasKey lanes)) (sym is) (all_keys lanes sound)) in
    let count = length-map new step_place in
    record {
      each = each;
      all = subst (λ (places : List (ℕ × ℕ)). IsPermutation places (map step_place new))
          (ap (map step_place) is ∙ places_in lanes 0 (length lanes)) (IsPermutation-map step_place old new moved);
      sorted = λ k d low high.
          let z : TimedStep = record { cycle = 0; «module» = 0; step = 0 } in
          let first : k < length new = omega arith in
          let second : k + 1 < length new = omega arith in
          let a = get_or-map step_place new k z d first in
          let b = get_or-map step_place new (k + 1) z d second in
          rw (a, b) (not_before lanes (get_or new (k + 1) z) (get_or new k z) (each (k + 1) z second) (each k z first)
          (sorted k z low second));
    }
