-- When a FIFO first holds so many elements, by the cycles of its pushes and pops.
use Rattle.std.proofs.Common.{◌≡◌, refl, sym, ap, subst, ◌∙◌, ℕ, zero, suc, ◌+◌, ◌-◌, ◌<◌, ◌≤◌, inl, inr, min, true, false, List, [], ◌∷◌}
use Rattle.std.proofs.Common.{length, get_or, Option, None, Some, arith}
use Rattle.std.proofs.{lemmas.Bool.Decides.nat_tests, lemmas.List.get_or_past, lemmas.List.Kept.AllPairs-from_increasing}
use Rattle.std.proofs.lemmas.Bool.{cases_lt, cases_Bool, ltb-true, both_ways}
use Rattle.std.proofs.lemmas.Option.{slice_get_within, slice_get-get_or, get_or_from_slice_get, slice_get_past}
use Rattle.std.proofs.lemmas.List.Sums.{length-filter, count_by-le-length}
use Rattle.std.specs.{Prelude.All, Prelude.slice_get, List.Sorted.IsStrictlyIncreasing}
use Rattle.retime.specs.{Place, Side, Lane, IsSoundLane, no_lane, lane_at, cycle_of, cycle_bound, Channel, depth_of, places_of}
use Rattle.retime.specs.{is_cycle_before, timed_before, held_elements, clock_at, ArePlacesInOrder, IsFirstTouched, IsNeverTouched}
use Rattle.flow_word.specs.declared.access.Side.TheVariants.{Pop, Push}

-- each clock is later than the one before
abbrev pub IsRising : List Lane → List Place → Type 0
IsRising lanes places = (i j v : ℕ) → i < j → clock_at lanes places j ≡ Some v → (u : ℕ) × (clock_at lanes places i ≡ Some u) × (u < v)

-- ---- clocks in order

pub clock_of : (lanes : List Lane) (places : List Place) (i : ℕ) (e : Place) → i < length places
    → clock_at lanes places i ≡ cycle_of lanes (get_or places i e)
clock_of lanes places i e l = rw (slice_get-get_or places i e l) refl

clock_past : (lanes : List Lane) (places : List Place) (i : ℕ) → length places ≤ i → clock_at lanes places i ≡ None
clock_past lanes places i l = rw (slice_get_past places i l) refl

pub clock_within : (lanes : List Lane) (places : List Place) (i v : ℕ) → clock_at lanes places i ≡ Some v → i < length places
clock_within lanes places i v e = let none = clock_past lanes places i in grind arith

pub rising_of : (lanes : List Lane) → All IsSoundLane lanes → (m : ℕ) → IsStrictlyIncreasing (lane_at lanes m).cycles
rising_of lanes sound m =
    elim (cases_lt m (length lanes)) [
      | inl l ↦ (sound m no_lane l).rising
      | inr l ↦ rw (get_or_past lanes m no_lane l) (λ k u. absurd (omega arith))
    ]

earlier : (xs : List ℕ) → IsStrictlyIncreasing xs → (i j v : ℕ) → i < j → slice_get xs j ≡ Some v → (u : ℕ) × (slice_get xs i ≡ Some u)
    × (u < v)
earlier xs r i j v l e =
    let n = slice_get_within xs j v e in
    let a = AllPairs-from_increasing xs r i j 0 l n in
    let w = get_or_from_slice_get xs j v 0 e in
    (get_or xs i 0, slice_get-get_or xs i 0 (omega arith), subst (λ (q : ℕ). get_or xs i 0 < q) w a)

pub order_rises : (lanes : List Lane) (places : List Place) → All IsSoundLane lanes → ArePlacesInOrder places → IsRising lanes places
order_rises lanes places sound order i j v l e =
    let n = clock_within lanes places j v e in
    let q = get_or places j first in
    let (same, less) = order i j first l n in
    let at = sym (clock_of lanes places j first n) ∙ e in
    let (u, is, before) = earlier (lane_at lanes (get_or places j first).module).cycles
    (rising_of lanes sound (get_or places j first).module) (get_or places i first).step (get_or places j first).step v less at in (
      u,
      clock_of lanes places i first (omega arith) ∙ (ap (λ (m : ℕ). slice_get (lane_at lanes m).cycles (get_or places i first).step) same
          ∙ is),
      before,
    )
  where
    first : Place
    first = record { «module» = 0; step = 0 }

rising_tail : (lanes : List Lane) (p : Place) (places : List Place) → IsRising lanes (p ∷ places) → IsRising lanes places
rising_tail lanes p places r i j v l e = r (suc i) (suc j) v (omega arith) e

-- ---- how many are before a clock

some_before : (c : ℕ) (o : Option ℕ) (v : ℕ) → o ≡ Some v → v < c → is_cycle_before c o ≡ true
some_before c o v e l = grind (arith, nat_tests)

before_some : (c : ℕ) (o : Option ℕ) → is_cycle_before c o ≡ true → (v : ℕ) × (o ≡ Some v) × (v < c)
before_some c None b = cc
before_some c (Some u) b = (u, refl, ltb-true u c b)

counted : (lanes : List Lane) (p : Place) (places : List Place) (c : ℕ) → is_cycle_before c (cycle_of lanes p) ≡ true
    → timed_before lanes (p ∷ places) c ≡ suc (timed_before lanes places c)
counted lanes p places c b = rw b refl

skipped : (lanes : List Lane) (p : Place) (places : List Place) (c : ℕ) → is_cycle_before c (cycle_of lanes p) ≡ false
    → timed_before lanes (p ∷ places) c ≡ timed_before lanes places c
skipped lanes p places c b = rw b refl

-- a clock before c is among the first so many
pub before_more : (lanes : List Lane) (places : List Place) (c : ℕ) → IsRising lanes places → (i v : ℕ) → clock_at lanes places i ≡ Some v
    → v < c → i < timed_before lanes places c
before_more lanes [] c r i v e l = cc
before_more lanes (p ∷ places) c r zero v e l = let n = counted lanes p places c (some_before c (cycle_of lanes p) v e l) in omega arith
before_more lanes (p ∷ places) c r (suc i) v e l =
    let (u, is, less) = r 0 (suc i) v (omega arith) e in
    let n = counted lanes p places c (some_before c (cycle_of lanes p) u is (omega arith)) in
    let m = before_more lanes places c (rising_tail lanes p places r) i v e l in
    omega arith

-- and what is among them is a clock before c
pub before_less : (lanes : List Lane) (places : List Place) (c : ℕ) → IsRising lanes places → (i : ℕ) → i < timed_before lanes places c
    → (v : ℕ) × (clock_at lanes places i ≡ Some v) × (v < c)
before_less lanes [] c r i l = absurd (omega arith)
before_less lanes (p ∷ places) c r zero l =
    elim (cases_Bool (is_cycle_before c (cycle_of lanes p))) [
      | inl b ↦ before_some c (cycle_of lanes p) b
      | inr b ↦
          let n = skipped lanes p places c b in
          let (v, is, less) = before_less lanes places c (rising_tail lanes p places r) 0 (omega arith) in
          let (u, was, before) = r 0 1 v (omega arith) is in
          absurd (both_ways _ b (some_before c (cycle_of lanes p) u was (omega arith)))
    ]
before_less lanes (p ∷ places) c r (suc i) l =
    let one = counted lanes p places c in
    let none = skipped lanes p places c in
    let within : i < timed_before lanes places c = grind arith in
    before_less lanes places c (rising_tail lanes p places r) i within

-- ---- no more pushes have a cycle than there are cycles

step_at_least : (places : List Place) → ArePlacesInOrder places → (i : ℕ) (e : Place) → i < length places → i ≤ (get_or places i e).step
step_at_least places order zero e l = omega arith
step_at_least places order (suc i) e l =
    let a = step_at_least places order i e (omega arith) in
    let (same, less) = order i (suc i) e (omega arith) l in
    omega arith

cycle_least : (xs : List ℕ) → IsStrictlyIncreasing xs → (i v : ℕ) → slice_get xs i ≡ Some v → i ≤ v
cycle_least xs r zero v e = omega arith
cycle_least xs r (suc i) v e =
    let (u, is, less) = earlier xs r i (suc i) v (omega arith) e in
    let a = cycle_least xs r i u is in
    omega arith

below_bound : (lanes : List Lane) → All IsSoundLane lanes → (m i v : ℕ) → slice_get (lane_at lanes m).cycles i ≡ Some v → v < cycle_bound
below_bound lanes sound m i v e =
    let within = slice_get_within (lane_at lanes m).cycles i v e in
    let past = get_or_past lanes m no_lane in
    let inside : m < length lanes = grind arith in
    let below = (sound m no_lane inside).below i 0 within in
    let is = get_or_from_slice_get (lane_at lanes m).cycles i v 0 e in
    omega arith

pub few_clocks : (lanes : List Lane) (places : List Place) → All IsSoundLane lanes → ArePlacesInOrder places → (i v : ℕ)
    → clock_at lanes places i ≡ Some v → i < cycle_bound
few_clocks lanes places sound order i v e =
    let n = clock_within lanes places i v e in
    let a = step_at_least places order i first n in
    let at = sym (clock_of lanes places i first n) ∙ e in
    let m = (get_or places i first).module in
    let b = cycle_least (lane_at lanes (get_or places i first).module).cycles (rising_of lanes sound (get_or places i first).module)
    (get_or places i first).step v at in
    let w = below_bound lanes sound (get_or places i first).module (get_or places i first).step v at in
    omega arith
  where
    first : Place
    first = record { «module» = 0; step = 0 }

-- ---- the pushes in order of their ordinals

-- the pushes and pops of the channel rise, and of each push of an ordinal from `full` on and below n: the pop that keeps the FIFO from
-- holding so many was before it or in its clock
pub record IsFullBefore (lanes : List Lane) (channel : Channel) (full n : ℕ) : Type 0 where
  pub pushes : IsRising lanes (places_of Push channel)
  pub pops : IsRising lanes (places_of Pop channel)
  pub bounded : (i v : ℕ) → clock_at lanes (places_of Push channel) i ≡ Some v → i < cycle_bound
  pub some : 1 ≤ full
  pub push : (o : ℕ) → full ≤ o → o < n → (v : ℕ) × (clock_at lanes (places_of Push channel) (o - 1) ≡ Some v)
  pub pop : (o v : ℕ) → full ≤ o → o < n → clock_at lanes (places_of Push channel) (o - 1) ≡ Some v → (w : ℕ)
      × (clock_at lanes (places_of Pop channel) (o - full) ≡ Some w) × (w ≤ v)

pub none_yet : (lanes : List Lane) (channel : Channel) (full n : ℕ) → All IsSoundLane lanes
    → ((side : Side) → ArePlacesInOrder (places_of side channel)) → 1 ≤ full → n ≡ full → IsFullBefore lanes channel full n
none_yet lanes channel full n sound order some e = record {
  pushes = order_rises lanes (places_of Push channel) sound (order Push);
  pops = order_rises lanes (places_of Pop channel) sound (order Pop);
  bounded = λ i v at. few_clocks lanes (places_of Push channel) sound (order Push) i v at;
  some = some;
  push = λ o l u. absurd (omega arith);
  pop = λ o v l u at. absurd (omega arith);
}

same_clock : (o : Option ℕ) (u v : ℕ) → o ≡ Some u → o ≡ Some v → u ≡ v
same_clock o u v e f = let s : Some u ≡ Some v = sym e ∙ f in cc

module _ (lanes : List Lane) (channel : Channel) (full n : ℕ) (inv : IsFullBefore lanes channel full n) where
  -- with fewer pushes than n it holds fewer
  holds_fewer : (c : ℕ) → timed_before lanes (places_of Push channel) c < n
      → held_elements lanes channel c < full
  holds_fewer c l =
      elim (cases_lt (timed_before lanes (places_of Push channel) c) full) [
        | inl u ↦ omega arith
        | inr u ↦
            let b = timed_before lanes (places_of Push channel) c in
            let (v, is, less) = before_less lanes (places_of Push channel) c inv.pushes (b - 1) (omega arith) in
            let (w, at, le) = inv.pop b v u l is in
            let m = before_more lanes (places_of Pop channel) c inv.pops (b - full) w at (omega arith) in
            omega arith
      ]

  -- so it does where the push of ordinal n has no cycle
  pub no_push : 1 ≤ n → clock_at lanes (places_of Push channel) (n - 1) ≡ None → (c : ℕ)
      → timed_before lanes (places_of Push channel) c < n
  no_push l none c = let before = before_less lanes (places_of Push channel) c inv.pushes (n - 1) in grind arith

  -- before the clock after a push there are fewer pushes than its ordinal, and in it as many
  fewer : (v c : ℕ) → 1 ≤ n → clock_at lanes (places_of Push channel) (n - 1) ≡ Some v → c ≤ v
      → timed_before lanes (places_of Push channel) c < n
  fewer v c l e le = let before = before_less lanes (places_of Push channel) c inv.pushes (n - 1) in grind arith

  as_many : (v : ℕ) → 1 ≤ n → clock_at lanes (places_of Push channel) (n - 1) ≡ Some v
      → timed_before lanes (places_of Push channel) (v + 1) ≡ n
  as_many v l e =
      let m = before_more lanes (places_of Push channel) (v + 1) inv.pushes (n - 1) v e (omega arith) in
      let past = before_less lanes (places_of Push channel) (v + 1) inv.pushes n in
      let rises = inv.pushes (n - 1) n in
      grind arith

  -- where that pop was not before the push nor in its clock, the FIFO holds so many in the clock after it
  holds : (v : ℕ) → full ≤ n → clock_at lanes (places_of Push channel) (n - 1) ≡ Some v
      → ((w : ℕ) → clock_at lanes (places_of Pop channel) (n - full) ≡ Some w → v < w) → held_elements lanes channel (v + 1) ≡ full
  holds v l e later =
      let b = as_many v (omega (arith, inv.some)) e in
      let past = before_less lanes (places_of Pop channel) (v + 1) inv.pops (n - full) in
      let most : timed_before lanes (places_of Pop channel) (v + 1) ≤ n - full = grind arith in
      let least : n - full ≤ timed_before lanes (places_of Pop channel) (v + 1) =
      elim (cases_lt full n) [
        | inl u ↦
            let (y, was) = inv.push (n - 1) (omega arith) (omega arith) in
            let (w, at, le) = inv.pop (n - 1) y (omega arith) (omega arith) was in
            let (z, is, before) = inv.pushes (n - 1 - 1) (n - 1) v (omega arith) e in
            let s = same_clock _ y z was is in
            let m = before_more lanes (places_of Pop channel) (v + 1) inv.pops (n - 1 - full) w at (omega arith) in
            omega arith
        | inr u ↦ omega arith
      ] in
      omega arith

  pub first_of : (depth v : ℕ) → full ≡ min (depth_of channel.kind) depth → (depth_of channel.kind ≡ depth → ⊥) → full ≤ n
      → clock_at lanes (places_of Push channel) (n - 1) ≡ Some v
      → ((w : ℕ) → clock_at lanes (places_of Pop channel) (n - full) ≡ Some w → v < w) → IsFirstTouched lanes channel depth (v + 1)
  first_of depth v is apart l e later = record {
    changes = apart;
    after = (n - 1, v, e, omega arith);
    reached = holds v l e later ∙ is;
    first = λ c u h. let f = holds_fewer c (fewer v c (omega (arith, inv.some)) e (omega arith)) in absurd (omega (arith, h, is, f));
  }

  pub never_of : (depth : ℕ) → full ≡ min (depth_of channel.kind) depth
      → ((c : ℕ) → timed_before lanes (places_of Push channel) c < n) → IsNeverTouched lanes channel depth
  never_of depth is few = inr (λ c h. let f = holds_fewer c (few c) in absurd (omega (arith, h, is, f)))

  pub one_more : (v w : ℕ) → full ≤ n → clock_at lanes (places_of Push channel) (n - 1) ≡ Some v
      → clock_at lanes (places_of Pop channel) (n - full) ≡ Some w → w ≤ v → IsFullBefore lanes channel full (n + 1)
  one_more v w l e f le = record {
    pushes = inv.pushes;
    pops = inv.pops;
    bounded = inv.bounded;
    some = inv.some;
    push = λ o a b. elim (cases_lt o n) [
      | inl u ↦ inv.push o a u
      | inr u ↦ (v, ap (λ (k : ℕ). clock_at lanes (places_of Push channel) (k - 1)) (at o u b) ∙ e)
    ];
    pop = λ o y a b g. elim (cases_lt o n) [
      | inl u ↦ inv.pop o y a u g
      | inr u ↦
          let s = same_clock _ v y e (ap (λ (k : ℕ). clock_at lanes (places_of Push channel) (k - 1)) (sym (at o u b)) ∙ g) in
          (w, ap (λ (k : ℕ). clock_at lanes (places_of Pop channel) (k - full)) (at o u b) ∙ f, omega arith)
    ];
  }
    where
      at : (o : ℕ) → n ≤ o → o < n + 1 → o ≡ n
      at o a b = omega arith

-- ---- the answer of the code

pub none_of : (o : Option ℕ) → ((v : ℕ) → o ≡ Some v → ⊥) → o ≡ None
none_of None f = refl
none_of (Some v) f = absurd (f v refl)

pub later_than : (o : Option ℕ) (v u w : ℕ) → o ≡ Some u → v < u → o ≡ Some w → v < w
later_than o v u w e l f = let s = same_clock o u w e f in omega arith

-- no more places have a cycle than there are
pub all_before : (lanes : List Lane) (places : List Place) (c n : ℕ) → length places < n → timed_before lanes places c < n
all_before lanes places c n l = omega (
  arith,
  l,
  length-filter (λ p. is_cycle_before c (cycle_of lanes p)) places,
  count_by-le-length (λ p. is_cycle_before c (cycle_of lanes p)) places,
)

pub bound_is : cycle_bound ≡ 1000000000000000
bound_is = refl
