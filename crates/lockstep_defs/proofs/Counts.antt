-- What is possible on a channel is a matter of counts.
use Rattle.std.proofs.Common.{◌≡◌, ℕ, zero, suc, ◌+◌, ◌-◌, ◌≤◌, ◌<◌, List, [], ◌∷◌, ◌++◌, map, length, drop, Bool, true, false, ◌&&◌, not}
use Rattle.std.proofs.Common.{refl, sym, ◌∙◌, ap, ap₂, subst, arith, nat_lt, nat_le, length-append, append_assoc, zero-add, suc-add, ◌⊎◌}
use Rattle.std.proofs.Common.{inl, inr}
use Rattle.std.proofs.lemmas.Bool.{ltb_from_iff, leb-true, leb-false, lt-ltb, le-ltb, cases_lt}
use Rattle.std.proofs.lemmas.List.{append-nil, length-map, map-append, drop-append-le}
use Rattle.std.proofs.lemmas.List.FromFn.{get_or-map-range_with_len}
use Rattle.std.specs.{Prelude.slice_index, Prelude.slice_index_or, List.AllByRecursion}
use Rattle.flow_word.specs.declared.access.Side.TheVariants.{Pop, Push}
use Rattle.lockstep_defs.specs.{ChannelKind, Plan, ClockState, Element, AreEntriesSound, FitsEngine, cut_to, is_fifo, kind_at, delay_of}
use Rattle.lockstep_defs.specs.{delay_at, width_of, all_in, IsCounted, element_from, values, is_empty, moved, contents_of, inputs_of}
use Rattle.lockstep_defs.specs.{opening, steps_in, moment, state, history}
use Rattle.flow_design.specs.declared.design.ChannelKind.TheVariants.{Source, Sink, Fifo}
use Rattle.lockstep_defs.proofs.{Settled.state-suc, Settled.history-zero, Settled.history-suc, Once.KeepsPorts, Rules.keeps_ports}
use Rattle.lockstep_defs.proofs.Queue.{all-append, moved-nil, moved-append, values_from, contents-step, same_channels, popped_within}
use Rattle.lockstep_defs.proofs.Queue.{conserved, channel_count}

-- ---- what a channel holds at clock 0

pub first_contents : (p : Plan) (f : ℕ) → f < length p.design.channels → contents_of (state p 0).contents f ≡ inputs_of p f
unfolding moment opening
first_contents p f l = get_or-map-range_with_len (inputs_of p) 0 (length p.design.channels) f f [] l (omega arith)

no_entries : (k : ChannelKind) (inputs : List ℕ) (depth : ℕ) → AreEntriesSound k inputs depth → is_fifo k ≡ true → inputs ≡ []
no_entries Source inputs depth h e = cc
no_entries Sink inputs depth h e = cc
no_entries (Fifo declared delay) inputs depth h e = h.0

-- a FIFO is empty
pub fifo_opens_empty : (p : Plan) → FitsEngine p → (f : ℕ) → f < length p.design.channels → is_fifo (kind_at p f) ≡ true
    → contents_of (state p 0).contents f ≡ []
fifo_opens_empty p h f l e =
    first_contents p f l
    ∙ ap (map (λ v. element_from 0 (cut_to (width_of p.design.channels f) v)))
    (no_entries (kind_at p f) (slice_index_or p.inputs f []) (slice_index p.depths f) (h.channels f l).entries e)

-- ---- every element that came, with the clock from which it can be popped

unfoldable pub elements : Plan → ℕ → ℕ → List Element
elements p f zero = contents_of (state p 0).contents f
elements p f (suc c) = elements p f c ++ map (element_from (c + delay_at p f)) (moved Push f (steps_in p c (state p c)))

values-append : (xs ys : List Element) → values (xs ++ ys) ≡ values xs ++ values ys
values-append xs ys = map-append (λ (e : Element). e.value) xs ys

elements_values : (p : Plan) (f c : ℕ) → values (elements p f c) ≡ all_in p c f
unfolding elements
elements_values p f zero = sym (ap (λ (l : List ℕ). values (contents_of (state p 0).contents f) ++ l)
    (ap (moved Push f) (history-zero p) ∙ moved-nil Push f) ∙ append-nil _)
elements_values p f (suc c) =
    let now = moved Push f (steps_in p c (state p c)) in
    values-append (elements p f c) (map (element_from (c + delay_at p f)) now)
    ∙ (ap₂ (λ (x y : List ℕ). x ++ y) (elements_values p f c) (values_from (c + delay_at p f) now)
    ∙ (append_assoc (values (contents_of (state p 0).contents f)) (moved Push f (history p c)) now
    ∙ ap (λ (l : List ℕ). values (contents_of (state p 0).contents f) ++ l)
    (sym (ap (moved Push f) (history-suc p c) ∙ moved-append Push f (history p c) (steps_in p c (state p c))))))

elements_count : (p : Plan) (f c : ℕ) → length (elements p f c) ≡ length (all_in p c f)
elements_count p f c = sym (length-map (elements p f c) (λ (e : Element). e.value)) ∙ ap length (elements_values p f c)

-- dropping twice, with more after
drop_none : {X : Type 0} (n : ℕ) → drop {A = X} n [] ≡ []
drop_none zero = refl
drop_none (suc n) = refl

drop_twice : {X : Type 0} (m n : ℕ) (xs : List X) → drop n (drop m xs) ≡ drop (m + n) xs
drop_twice zero n xs = ap (λ k. drop k xs) (sym (zero-add n))
drop_twice (suc m) n [] = drop_none n ∙ sym (drop_none (suc m + n))
drop_twice (suc m) n (x ∷ xs) = drop_twice m n xs ∙ ap (λ k. drop k (x ∷ xs)) (sym (suc-add m n))

drop_more : {X : Type 0} (m n : ℕ) (xs ys : List X) → m + n ≤ length xs → drop n (drop m xs) ++ ys ≡ drop (m + n) (xs ++ ys)
drop_more {X} m n xs ys l = ap (λ (zs : List X). zs ++ ys) (drop_twice m n xs) ∙ sym (drop-append-le (m + n) xs ys l)

counts : (p : Plan) → KeepsPorts p → (f : ℕ) → f < length (state p 0).contents → (c : ℕ)
    → length (all_in p c f) ≡ length (moved Pop f (history p c)) + length (contents_of (state p c).contents f)
counts p k f h c =
    ap length (conserved p k f h c)
    ∙ (length-append (moved Pop f (history p c)) (values (contents_of (state p c).contents f))
    ∙ ap (λ (n : ℕ). length (moved Pop f (history p c)) + n) (length-map (contents_of (state p c).contents f) (λ (e : Element). e.value)))

-- the contents are the elements that came without as many as were popped
elements_held : (p : Plan) → KeepsPorts p → (f : ℕ) → f < length (state p 0).contents → (c : ℕ)
    → contents_of (state p c).contents f ≡ drop (length (moved Pop f (history p c))) (elements p f c)
unfolding elements
elements_held p k f h zero = ap (λ (l : List ℕ). drop (length l) (contents_of (state p 0).contents f))
    (sym (ap (moved Pop f) (history-zero p) ∙ moved-nil Pop f))
elements_held p k f h (suc c) =
    let inside : f < length (state p c).contents = omega (arith, same_channels p c) in
    let steps = steps_in p c (state p c) in
    let before = elements_held p k f h c in
    let new = map (element_from (c + delay_at p f)) (moved Push f steps) in
    let within = popped_within p k c (state p c) f in
    let popped : length (moved Pop f (history p (suc c))) ≡ length (moved Pop f (history p c)) + length (moved Pop f steps) =
    ap length (ap (moved Pop f) (history-suc p c) ∙ moved-append Pop f (history p c) steps)
    ∙ length-append (moved Pop f (history p c)) (moved Pop f steps) in
    ap (λ (st : ClockState). contents_of st.contents f) (state-suc p c)
    ∙ (contents-step p c (state p c) f inside
    ∙ (ap (λ (l : List Element). drop (length (moved Pop f steps)) l ++ new) before
    ∙ (drop_more (length (moved Pop f (history p c))) (length (moved Pop f steps)) (elements p f c) new
    (omega (arith, within, elements_count p f c, counts p k f h c))
    ∙ ap (λ (n : ℕ). drop n (elements p f c ++ new)) (sym popped))))

-- ---- which of them can be popped

all-from : (t : ℕ) (P : Element → Type 0) (vs : List ℕ) → ((v : ℕ) → P (element_from t v)) → AllByRecursion P (map (element_from t) vs)
all-from t P [] h = tt
all-from t P (v ∷ vs) h = (h v, all-from t P vs h)

first_since : (p : Plan) (f t : ℕ) → f < length p.design.channels → AllByRecursion (λ e. e.since ≤ t) (contents_of (state p 0).contents f)
first_since p f t l = subst (AllByRecursion (λ e. e.since ≤ t)) (sym (first_contents p f l)) (by_inputs (slice_index_or p.inputs f []))
  where
    by_inputs : (vs : List ℕ) → AllByRecursion (λ e. e.since ≤ t) (map (λ v. element_from 0 (cut_to (width_of p.design.channels f) v)) vs)
    by_inputs [] = tt
    by_inputs (v ∷ vs) = (omega arith, by_inputs vs)

-- those that came as many clocks ago as the delay
early : (p : Plan) (f t : ℕ) → f < length p.design.channels → (b : ℕ) → b + delay_at p f ≤ suc t ⊎ (b ≡ 0)
    → AllByRecursion (λ e. e.since ≤ t) (elements p f b)
unfolding elements
early p f t l zero h = first_since p f t l
early p f t l (suc b) (inr h) = absurd (omega arith)
early p f t l (suc b) (inl h) =
    all-append (λ (e : Element). e.since ≤ t) (elements p f b)
    (map (element_from (b + delay_at p f)) (moved Push f (steps_in p b (state p b))))
    (early p f t l b (inl (omega arith)))
    (all-from (b + delay_at p f) (λ (e : Element). e.since ≤ t) (moved Push f (steps_in p b (state p b))) (λ v. omega arith))

-- and those that came later
late : (p : Plan) (f t b : ℕ) → t < b + delay_at p f → (k : ℕ)
    → (rest : List Element) × (elements p f (k + b) ≡ elements p f b ++ rest) × AllByRecursion (λ e. t < e.since) rest
unfolding elements
late p f t b h zero = ([], ap (elements p f) (zero-add b) ∙ sym (append-nil _), tt)
late p f t b h (suc k) =
    let (rest, is, all) = late p f t b h k in
    let new = map (element_from ((k + b) + delay_at p f)) (moved Push f (steps_in p (k + b) (state p (k + b)))) in (
      rest ++ new,
      ap (elements p f) (suc-add k b) ∙ (ap (λ (l : List Element). l ++ new) is ∙ append_assoc (elements p f b) rest new),
      all-append (λ (e : Element). t < e.since) rest new all
          (all-from ((k + b) + delay_at p f) (λ (e : Element). t < e.since) (moved Push f (steps_in p (k + b) (state p (k + b))))
          (λ v. omega arith)),
    )

late_none : (t n : ℕ) (ys : List Element) → AllByRecursion (λ e. t < e.since) ys → not (is_empty t (drop n ys)) ≡ false
late_none t zero [] a = refl
late_none t (suc n) [] a = refl
late_none t zero (y ∷ ys) a = rw (lt-ltb t y.since a.0) refl
late_none t (suc n) (y ∷ ys) a = late_none t n ys a.1

less_more : (n m : ℕ) → nat_lt n m ≡ nat_lt (suc n) (suc m)
less_more n m = elim (cases_lt n m) [
  | inl l ↦ lt-ltb n m l ∙ sym (lt-ltb (suc n) (suc m) (omega arith))
  | inr l ↦ le-ltb n m l ∙ sym (le-ltb (suc n) (suc m) (omega arith))
]

some_there : (t n : ℕ) (xs ys : List Element) → AllByRecursion (λ e. e.since ≤ t) xs → AllByRecursion (λ e. t < e.since) ys
    → not (is_empty t (drop n (xs ++ ys))) ≡ nat_lt n (length xs)
some_there t n [] ys a b = late_none t n ys b ∙ sym (le-ltb n 0 (omega arith))
some_there t zero (x ∷ xs) ys a b = rw (le-ltb t x.since a.0) (sym (lt-ltb 0 (suc (length xs)) (omega arith)))
some_there t (suc n) (x ∷ xs) ys a b = some_there t n xs ys a.1 b ∙ less_more n (length xs)

-- ---- counts

some_delay : (k : ChannelKind) (inputs : List ℕ) (depth : ℕ) → AreEntriesSound k inputs depth → 1 ≤ delay_of k
some_delay Source inputs depth h = omega arith
some_delay Sink inputs depth h = omega arith
some_delay (Fifo declared delay) inputs depth h = let (a, b, c, d, e) = h in d

pub delay_positive : (p : Plan) → FitsEngine p → (f : ℕ) → f < length p.design.channels → 1 ≤ delay_at p f
delay_positive p h f l = some_delay (kind_at p f) (slice_index_or p.inputs f []) (slice_index p.depths f) (h.channels f l).entries

pops_counted : (p : Plan) → FitsEngine p → (c f : ℕ) → f < length p.design.channels
    → not (is_empty c (contents_of (state p c).contents f))
    ≡ nat_lt (length (moved Pop f (history p c))) (length (all_in p (suc c - delay_at p f) f))
pops_counted p h c f l =
    let some = delay_positive p h f l in
    let b = suc c - delay_at p f in
    let n = length (moved Pop f (history p c)) in
    let back : (c - b) + b ≡ c = omega arith in
    let (rest, is, after) = late p f c b (omega arith) (c - b) in
    let before = early p f c l b (early_enough (suc c) (delay_at p f)) in
    ap (λ (held : List Element). not (is_empty c held))
    (elements_held p (keeps_ports p h) f (omega (arith, channel_count p)) c ∙ ap (drop n) (sym (ap (elements p f) back) ∙ is))
    ∙ (some_there c n (elements p f b) rest before after ∙ ap (nat_lt n) (elements_count p f b))
  where
    early_enough : (a d : ℕ) → ((a - d) + d ≤ a) ⊎ (a - d ≡ 0)
    early_enough a d = elim (cases_lt a d) [ inl l ↦ inr (omega arith) | inr l ↦ inl (omega arith) ]

place_free : (t : Bool) (depth held popped pushed : ℕ) → t ≡ true → pushed ≡ popped + held
    → not (t && nat_le depth held) ≡ nat_lt pushed (depth + popped)
place_free false depth held popped pushed h e = cc
place_free true depth held popped pushed h e = by_test (nat_le depth held) refl
  where
    by_test : (b : Bool) → nat_le depth held ≡ b → not b ≡ nat_lt pushed (depth + popped)
    by_test true q = let more = leb-true depth held q in ltb_from_iff (λ h. cc, λ l. absurd (omega arith))
    by_test false q = let less = leb-false depth held q in ltb_from_iff (λ h. omega arith, λ l. refl)

always_free : (t b : Bool) → t ≡ false → not (t && b) ≡ true
always_free true b h = cc
always_free false b h = refl

pub is_counted : (p : Plan) → FitsEngine p → (c f : ℕ) → f < length p.design.channels → IsCounted p c f
is_counted p h c f l =
    let e = counts p (keeps_ports p h) f (omega (arith, channel_count p)) c in
    record {
      pops = pops_counted p h c f l;
      pushes = λ fifo.
          let empty : length (values (contents_of (state p 0).contents f))
          ≡ 0 = ap (λ (held : List Element). length (values held)) (fifo_opens_empty p h f l fifo) in
          let all = length-append (values (contents_of (state p 0).contents f)) (moved Push f (history p c)) in
          place_free (is_fifo (kind_at p f)) (slice_index p.depths f) (length (contents_of (state p c).contents f))
          (length (moved Pop f (history p c)))
          (length (moved Push f (history p c))) fifo (omega arith);
      unlimited = always_free (is_fifo (kind_at p f)) _;
    }
