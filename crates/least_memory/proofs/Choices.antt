-- The choices of depths: which they are, and their order.
use Rattle.std.proofs.Common.{◌≡◌, ℕ, zero, suc, ◌+◌, ◌<◌, ◌≤◌, inl, inr, true, false, List, [], ◌∷◌, ◌++◌, length, refl, sym, subst, arith}
use Rattle.std.proofs.lemmas.Bool.{cases_Bool, cases_lt}
use Rattle.std.specs.{Prelude.slice_index, Prelude.slice_index_or, Prelude.flat_map, Prelude.map, List.range_with_len}
use Rattle.least_memory.specs.{Channel, is_fifo, no_channel, IsEarlier, allowed, choices}
use Rattle.least_memory.proofs.Among.{Among, among_append, among_map, mapped_among, among_flat_map, flat_mapped_among, Rises}

-- ---- which they are

-- a depth that a channel may have
pub record IsAllowed (most : ℕ) (channel : Channel) (depth : ℕ) : Type 0 where
  pub least : is_fifo channel.kind ≡ true → 1 ≤ depth
  pub within : is_fifo channel.kind ≡ true → depth ≤ most
  pub other : is_fifo channel.kind ≡ false → depth ≡ 0

-- one for each channel
pub record IsChoice (most : ℕ) (channels : List Channel) (depths : List ℕ) : Type 0 where
  pub count : length depths ≡ length channels
  pub each : (f : ℕ) → f < length channels → IsAllowed most (slice_index_or channels f no_channel) (slice_index depths f)

among_range : (lo n d : ℕ) → lo ≤ d → d < lo + n → Among (range_with_len lo n) d
among_range lo zero d l m = absurd (omega arith)
among_range lo (suc n) d l m = elim (cases_lt lo d) [
  | inl above ↦ inr (among_range (lo + 1) n d (omega arith) (omega arith))
  | inr here ↦ inl (omega arith)
]

range_among : (lo n d : ℕ) → Among (range_with_len lo n) d → (lo ≤ d) × (d < lo + n)
range_among lo zero d m = absurd m
range_among lo (suc n) d (inl e) = (omega arith, omega arith)
range_among lo (suc n) d (inr m) = let (l, h) = range_among (lo + 1) n d m in (omega arith, omega arith)

among_allowed : (most : ℕ) (channel : Channel) (d : ℕ) → IsAllowed most channel d → Among (allowed most channel) d
among_allowed most channel d h = elim (cases_Bool (is_fifo channel.kind)) [
  | inl e ↦
      let least = h.least e in
      let high = h.within e in
      rw e (among_range 1 most d (omega arith) (omega arith))
  | inr e ↦ let none = h.other e in rw e (inl none)
]

allowed_among : (most : ℕ) (channel : Channel) (d : ℕ) → Among (allowed most channel) d → IsAllowed most channel d
allowed_among most channel d m = elim (cases_Bool (is_fifo channel.kind)) [
  | inl e ↦
      let fifo : Among (range_with_len 1 most) d = rw e at m in
      let (l, h) = range_among 1 most d fifo in
      record { least = λ _. l; within = λ _. omega arith; other = λ it. absurd (cc) }
  | inr e ↦
      let other : Among (0 ∷ []) d = rw e at m in
      record {
        least = λ it. absurd (cc);
        within = λ it. absurd (cc);
        other = λ _. elim other [ inl is ↦ is | inr none ↦ absurd none ];
      }
]

pub among_choices : (most : ℕ) (channels : List Channel) (ds : List ℕ) → IsChoice most channels ds → Among (choices most channels) ds
unfolding choices
among_choices most [] [] h = inl refl
among_choices most [] (d ∷ ds) h = absurd (omega (arith, h.count))
among_choices most (c ∷ channels) [] h = absurd (omega (arith, h.count))
among_choices most (c ∷ channels) (d ∷ ds) h =
    among_flat_map (λ depth. map (λ others. depth ∷ others) (choices most channels)) (allowed most c) d (d ∷ ds)
    (among_allowed most c d (h.each 0 (omega arith)))
    (among_map (λ others. d ∷ others) (choices most channels) ds (among_choices most channels ds (record {
      count = omega (arith, h.count);
      each = λ f l. h.each (suc f) (omega arith);
    })))

pub choices_among : (most : ℕ) (channels : List Channel) (ds : List ℕ) → Among (choices most channels) ds → IsChoice most channels ds
unfolding choices
choices_among most [] ds m = elim m [
  | inl e ↦ rw e (record { count = refl; each = λ f l. absurd (omega arith) })
  | inr none ↦ absurd none
]
choices_among most (c ∷ channels) ds m =
    let (d, first, rest) = flat_mapped_among (λ depth. map (λ others. depth ∷ others) (choices most channels)) (allowed most c) ds m in
    let (es, others, is) = mapped_among (λ xs. d ∷ xs) (choices most channels) ds rest in
    let h = choices_among most channels es others in
    rw is (record { count = omega (arith, h.count); each = each d es (allowed_among most c d first) h })
  where
    each : (d : ℕ) (es : List ℕ) → IsAllowed most c d → IsChoice most channels es → (f : ℕ) → f < length (c ∷ channels)
        → IsAllowed most (slice_index_or (c ∷ channels) f no_channel) (slice_index (d ∷ es) f)
    each d es a h zero l = a
    each d es a h (suc f) l = h.each f (omega arith)

-- ---- their order

earlier_after : (d : ℕ) (ds es : List ℕ) → IsEarlier ds es → IsEarlier (d ∷ ds) (d ∷ es)
earlier_after d ds es h = record { place = suc h.place; same = same; less = h.less }
  where
    same : (f : ℕ) → f < suc h.place → slice_index (d ∷ ds) f ≡ slice_index (d ∷ es) f
    same zero l = refl
    same (suc f) l = h.same f (omega arith)

earlier_first : (d e : ℕ) (ds es : List ℕ) → d < e → IsEarlier (d ∷ ds) (e ∷ es)
earlier_first d e ds es l = record { place = 0; same = λ f m. absurd (omega arith); less = l }

rises_append : (xs ys : List (List ℕ)) → Rises xs → Rises ys → ((x y : List ℕ) → Among xs x → Among ys y → IsEarlier x y) → Rises (xs ++ ys)
rises_append [] ys a b across = b
rises_append (x ∷ xs) ys a b across = (
  λ y m. elim (among_append xs ys y m) [ inl k ↦ a.0 y k | inr k ↦ across x y (inl refl) k ],
  rises_append xs ys a.1 b (λ z y k l. across z y (inr k) l),
)

rises_after : (d : ℕ) (xs : List (List ℕ)) → Rises xs → Rises (map (λ others. d ∷ others) xs)
rises_after d [] r = tt
rises_after d (x ∷ xs) r = (
  λ y m. let (z, k, e) = mapped_among (λ others. d ∷ others) xs y m in subst (IsEarlier (d ∷ x)) (sym e) (earlier_after d x z (r.0 z k)),
  rises_after d xs r.1,
)

rises_range : (lo n : ℕ) (xs : List (List ℕ)) → Rises xs → Rises (flat_map (λ d. map (λ others. d ∷ others) xs) (range_with_len lo n))
rises_range lo zero xs r = tt
rises_range lo (suc n) xs r =
    rises_append (map (λ others. lo ∷ others) xs) (flat_map (λ d. map (λ others. d ∷ others) xs) (range_with_len (lo + 1) n))
    (rises_after lo xs r) (rises_range (lo + 1) n xs r) (λ x y m k.
    let (ds, a, e) = mapped_among (λ others. lo ∷ others) xs x m in
    let (d, b, c) = flat_mapped_among (λ d. map (λ others. d ∷ others) xs) (range_with_len (lo + 1) n) y k in
    let (es, g, i) = mapped_among (λ others. d ∷ others) xs y c in
    let (l, h) = range_among (lo + 1) n d b in
    let later : IsEarlier (lo ∷ ds) (d ∷ es) = earlier_first lo d ds es (omega arith) in
    rw e (rw i later))

pub rises_choices : (most : ℕ) (channels : List Channel) → Rises (choices most channels)
unfolding choices
rises_choices most [] = (λ y m. absurd m, tt)
rises_choices most (c ∷ channels) = elim (cases_Bool (is_fifo c.kind)) [
  | inl e ↦ rw e (rises_range 1 most (choices most channels) (rises_choices most channels))
  | inr e ↦ rw e (rises_append (map (λ others. 0 ∷ others) (choices most channels)) []
      (rises_after 0 (choices most channels) (rises_choices most channels)) tt (λ x y m k. absurd k))
]
