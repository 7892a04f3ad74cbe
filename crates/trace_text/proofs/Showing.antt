-- The list of a module's spans has exactly its spans, in order.
use Rattle.std.proofs.Common.{◌≡◌, ◌≢◌, ℕ, zero, suc, ◌+◌, ◌-◌, ◌<◌, ◌≤◌, List, [], ◌∷◌, ◌++◌, refl, sym, ap, ap₂, ◌∙◌, subst, arith, ◌⊎◌}
use Rattle.std.proofs.Common.{inl, inr, Some, None, Option, Bool, true, false, not, ◌&&◌, ◌||◌, cond, get_or, map, eqb, add-one}
use Rattle.std.proofs.lemmas.Bool.{cases_lt, cases_eq, cases_Bool, eq-eqb, ne_eqb, and_parts, eqb-true}
use Rattle.std.proofs.lemmas.List.{append-nil, map-append, get_or_default}
use Rattle.std.proofs.lemmas.List.FromFn.{length-range_with_len, get_or-range_with_len}
use Rattle.std.proofs.lemmas.List.Sums.{prefix_len-le-length, prefix_len_is, prefix_len_passes, prefix_len_stops}
use Rattle.std.specs.{Prelude.unwrap_or, Prelude.All, List.filter, List.range_with_len, List.prefix_len}
use Rattle.trace_text.specs.{Port, Side, same_side, Plan, FitsEngine, same_port, last_clock, Span, Doing, doing, IsSpan, AreSpans}
use Rattle.trace_text.specs.{same_doing, is_doing, does, begins_with, begins_span, span_with, span_at, spans_of, IsDrawn}
use Rattle.flow_word.specs.declared.access.Side.TheVariants.{Pop, Push}
use Rattle.timelines.specs.declared.span.Doing.TheVariants.{Moves, Still}
use Rattle.timelines.proofs.Adding.{cause_inside}
use Rattle.timelines.proofs.Lists.{span_is, Member, member_left, member_last, member_cases, Rising, rising_more, contains_member}
use Rattle.timelines.proofs.Extending.{Listed, listed_spans, spans_listed, only_spans, some_same}
use Rattle.trace_text.proofs.Lines.{passed_more}
use Rattle.event_timing.proofs.OwnRuns.{same_side_is}

-- ---- what is done is the same or not

ports_same : (a b : Port) → same_port a b ≡ true → a ≡ b
ports_same a b e =
    let parts = and_parts (same_side a.side b.side) (eqb a.channel b.channel) e in
    ap₂ (λ (s : Side) (c : ℕ). record { side = s; channel = c }) (same_side_is a.side b.side parts.0)
    (eqb-true a.channel b.channel parts.1)

same_is : (d e : Doing) → same_doing d e ≡ true → d ≡ e
same_is Moves Moves h = refl
same_is Moves (Still b) h = cc
same_is (Still a) Moves h = cc
same_is (Still a) (Still b) h = ap (λ (port : Port). Still port) (ports_same a b h)

side_self : (a : Side) → same_side a a ≡ true
side_self Pop = refl
side_self Push = refl

same_self : (d : Doing) → same_doing d d ≡ true
same_self Moves = refl
same_self (Still a) = ap₂ (λ (x y : Bool). x && y) (side_self a.side) (eq-eqb a.channel a.channel refl)

is_yes : (d : Doing) (o : Option Doing) → is_doing d o ≡ true → o ≡ Some d
is_yes d None h = cc
is_yes d (Some e) h = ap (λ (x : Doing). Some x) (sym (same_is d e h))

does_yes : (p : Plan) (i : ℕ) (d : Doing) (c : ℕ) → does p i d c ≡ true → doing p c i ≡ Some d
does_yes p i d c h = is_yes d (doing p c i) h

does_from : (p : Plan) (i : ℕ) (d : Doing) (c : ℕ) → doing p c i ≡ Some d → does p i d c ≡ true
does_from p i d c h = ap (is_doing d) h ∙ same_self d

does_no : (p : Plan) (i : ℕ) (d : Doing) (c : ℕ) → does p i d c ≡ false → doing p c i ≢ Some d
does_no p i d c h e = let f = does_from p i d c e in cc

not_does : (p : Plan) (i : ℕ) (d : Doing) (c : ℕ) → doing p c i ≢ Some d → does p i d c ≡ false
not_does p i d c n = elim (cases_Bool (does p i d c)) [
  | inl e ↦ absurd (n (does_yes p i d c e))
  | inr e ↦ e
]

-- ---- where a span begins

begins_other : (p : Plan) (i c x : ℕ) (d : Doing) → doing p c i ≡ Some d → begins_span p i c ≡ true → x + 1 ≡ c → doing p x i ≢ Some d
begins_other p i c x d e b q =
    let z : c - 1 ≡ x = omega arith in
    let h : (eqb c 0 || not (does p i d (c - 1))) ≡ true = sym (ap (begins_with p i c) e) ∙ b in
    let n : eqb c 0 ≡ false = ne_eqb c 0 (λ w. omega arith) in
    does_no p i d x (subst (λ (y : ℕ). does p i d y ≡ false) z (by_tests (eqb c 0) (does p i d (c - 1)) n h))
  where
    by_tests : (x y : Bool) → x ≡ false → (x || not y) ≡ true → y ≡ false
    by_tests true y n h = cc
    by_tests false true n h = cc
    by_tests false false n h = refl

begins_first : (p : Plan) (i c : ℕ) (d : Doing) → doing p c i ≡ Some d → ((x : ℕ) → x + 1 ≡ c → doing p x i ≢ Some d)
    → begins_span p i c ≡ true
begins_first p i c d e n = ap (begins_with p i c) e ∙ by_first (cases_eq c 0)
  where
    by_first : (c ≡ 0) ⊎ (c ≢ 0) → (eqb c 0 || not (does p i d (c - 1))) ≡ true
    by_first (inl z) = rw (eq-eqb c 0 z) refl
    by_first (inr z) = rw (ne_eqb c 0 z, not_does p i d (c - 1) (n (c - 1) (omega arith))) refl

begins_some : (p : Plan) (i c : ℕ) → begins_span p i c ≡ true → (d : Doing) × (doing p c i ≡ Some d)
begins_some p i c b = by_doing (doing p c i) b
  where
    by_doing : (o : Option Doing) → begins_with p i c o ≡ true → (d : Doing) × (o ≡ Some d)
    by_doing None h = cc
    by_doing (Some d) h = (d, refl)

span_at_is : (p : Plan) (i c : ℕ) (d : Doing) → doing p c i ≡ Some d → span_at p i c ≡ span_with p i c d
span_at_is p i c d e = ap (λ (o : Option Doing). span_with p i c (unwrap_or o Moves)) e

-- ---- how long it goes on

first_passes : (f : ℕ → Bool) (c n : ℕ) → 0 < n → f c ≡ true → 0 < prefix_len f (range_with_len c n)
first_passes f c zero l e = absurd (omega arith)
first_passes f c (suc n) l e = rw e (omega arith)

is_span : (p : Plan) (i c : ℕ) (d : Doing) → c < last_clock p → doing p c i ≡ Some d → begins_span p i c ≡ true
    → IsSpan p i (last_clock p) (span_with p i c d)
is_span p i c d l e b =
    let f = does p i d in
    let n = last_clock p - c in
    let xs = range_with_len c n in
    let count = length-range_with_len c n in
    let few = prefix_len-le-length f xs in
    let some = first_passes f c n (omega arith) (does_from p i d c e) in
    record {
      some = omega arith;
      below = omega arith;
      throughout = λ x y z.
          let k = x - c in
          let at : get_or xs k 0 ≡ x = get_or-range_with_len c n k 0 (omega arith) ∙ omega arith in
          does_yes p i d x (subst (λ (y : ℕ). f y ≡ true) at (prefix_len_passes f xs k 0 (omega arith)));
      begins = λ x q. begins_other p i c x d e b q;
      ends = λ w.
          let at = get_or-range_with_len c n (prefix_len f xs) 0 (omega arith) in
          does_no p i d (c + prefix_len f xs)
          (subst (λ (y : ℕ). f y ≡ false) at (prefix_len_stops f xs 0 (omega arith)));
    }

span_found : (p : Plan) (i : ℕ) (s : Span) → IsSpan p i (last_clock p) s
    → (s.first < last_clock p) × (begins_span p i s.first ≡ true) × (span_at p i s.first ≡ s)
span_found p i s h =
    let some = h.some in
    let below = h.below in
    let d = s.doing in
    let f = does p i d in
    let n = last_clock p - s.first in
    let xs = range_with_len s.first n in
    let count = length-range_with_len s.first n in
    let e = h.throughout s.first (omega arith) some in
    let long : prefix_len f xs ≡ s.until - s.first = prefix_len_is f xs (s.until - s.first) 0 (omega arith)
    (λ k l. subst (λ (y : ℕ). f y ≡ true) (sym (get_or-range_with_len s.first n k 0 (omega arith)))
    (does_from p i d (s.first + k) (h.throughout (s.first + k) (omega arith) (omega arith))))
    (λ l.
    let at : get_or xs (s.until - s.first) 0 ≡ s.until =
    get_or-range_with_len s.first n (s.until - s.first) 0 (omega arith) ∙ omega arith in
    subst (λ (y : ℕ). f y ≡ false) (sym at) (not_does p i d s.until (h.ends (omega arith)))) in (
      omega arith,
      begins_first p i s.first d e h.begins,
      span_at_is p i s.first d e ∙ span_is s s.first (s.first + prefix_len f xs) d refl (omega arith) refl,
    )

-- ---- the list

abbrev made : Plan → ℕ → ℕ → List Span
made p i n = map (span_at p i) (filter (begins_span p i) (range_with_len 0 n))

made_more : (p : Plan) (i n : ℕ) (b : Bool) → begins_span p i n ≡ b → made p i (suc n) ≡ made p i n ++ cond b (span_at p i n ∷ []) []
made_more p i n b e =
    ap (λ (k : ℕ). made p i k) (sym (add-one n))
    ∙ (ap (map (span_at p i)) (passed_more (begins_span p i) n)
    ∙ (map-append (span_at p i) (filter (begins_span p i) (range_with_len 0 n)) (cond (begins_span p i n) (n ∷ []) [])
    ∙ ap (λ (l : List Span). made p i n ++ l)
    (ap (λ (x : Bool). map (span_at p i) (cond x (n ∷ []) [])) e ∙ one b)))
  where
    one : (b : Bool) → map (span_at p i) (cond b (n ∷ []) []) ≡ cond b (span_at p i n ∷ []) []
    one true = refl
    one false = refl

-- what the list has up to a clock
record IsMade (p : Plan) (i n : ℕ) (ss : List Span) : Type 0 where
  pub are : (s : Span) → Member ss s → IsSpan p i (last_clock p) s × (s.first < n)
  pub all : (c : ℕ) → c < n → begins_span p i c ≡ true → Member ss (span_at p i c)
  pub rising : Rising ss

-- a span that began before does not go past a clock in which another begins
ends_before : (p : Plan) (i n : ℕ) (s : Span) → IsSpan p i (last_clock p) s → s.first < n → (d : Doing) → doing p n i ≡ Some d
    → begins_span p i n ≡ true → s.until ≤ n
ends_before p i n s g w d does e = elim (cases_lt n s.until) [
  | inr r ↦ r
  | inl r ↦
      let same = some_same s.doing d (sym (g.throughout n (omega arith) r) ∙ does) in
      absurd (begins_other p i n (n - 1) d does e (omega arith)
      (g.throughout (n - 1) (omega arith) (omega arith) ∙ ap (λ (x : Doing). Some x) same))
]

is_made : (p : Plan) (i n : ℕ) → n ≤ last_clock p → IsMade p i n (made p i n)
is_made p i zero l = record {
  are = λ s m. absurd m;
  all = λ c q b. absurd (omega arith);
  rising = tt;
}
is_made p i (suc n) l = by_test (begins_span p i n) refl (is_made p i n (omega arith))
  where
    here : (c : ℕ) → c < suc n → (c < n) ⊎ (c ≡ n)
    here c q = elim (cases_lt c n) [
      | inl w ↦ inl w
      | inr w ↦ inr (omega arith)
    ]

    by_test : (b : Bool) → begins_span p i n ≡ b → IsMade p i n (made p i n) → IsMade p i (suc n) (made p i (suc n))
    by_test false e h = subst (IsMade p i (suc n)) (sym (made_more p i n false e ∙ append-nil (made p i n))) (record {
      are = λ s m. let g = h.are s m in (g.0, let w = g.1 in omega arith);
      all = λ c q b. elim (here c q) [
        | inl w ↦ h.all c w b
        | inr w ↦ let f = ap (begins_span p i) w ∙ e in cc
      ];
      rising = h.rising;
    })
    by_test true e h =
        let (d, does) = begins_some p i n e in
        let new = subst (IsSpan p i (last_clock p)) (sym (span_at_is p i n d does)) (is_span p i n d (omega arith) does e) in
        subst (IsMade p i (suc n)) (sym (made_more p i n true e)) (record {
          are = λ s m. elim (member_cases (made p i n) (span_at p i n) s m) [
            | inl w ↦ let g = h.are s w in (g.0, let w' = g.1 in omega arith)
            | inr w ↦ (subst (IsSpan p i (last_clock p)) w new, omega (arith, ap (λ (t : Span). t.first) w))
          ];
          all = λ c q b. elim (here c q) [
            | inl w ↦ member_left (made p i n) (span_at p i n ∷ []) (span_at p i c) (h.all c w b)
            | inr w ↦ member_last (made p i n) (span_at p i n) (span_at p i c) (ap (span_at p i) (sym w))
          ];
          rising = rising_more (made p i n) (span_at p i n) h.rising (λ s m.
              let g = h.are s m in
              ends_before p i n s g.0 g.1 d does e);
        })

listed : (p : Plan) (i : ℕ) → Listed p i (last_clock p) (made p i (last_clock p))
listed p i =
    let h = is_made p i (last_clock p) (omega arith) in
    record {
      are = λ s m. (h.are s m).0;
      all = λ s g. let (l, b, e) = span_found p i s g in subst (Member (made p i (last_clock p))) e (h.all s.first l b);
      rising = h.rising;
    }

-- so these are the spans
pub are_the_spans : (p : Plan) (i : ℕ) → AreSpans p i (spans_of p i)
unfolding spans_of
are_the_spans p i = listed_spans p i (last_clock p) (made p i (last_clock p)) (listed p i)

pub spans_are : (p : Plan) (i : ℕ) (ss : List Span) → AreSpans p i ss → ss ≡ spans_of p i
spans_are p i ss a = only_spans p i (last_clock p) ss (spans_of p i) a (are_the_spans p i)

-- ---- what is drawn of them

drawn_by : (p : Plan) → FitsEngine p → (c i : ℕ) (d : Doing) → doing p c i ≡ Some d → IsDrawn p.design d
drawn_by p h c i Moves e = tt
drawn_by p h c i (Still port) e = cause_inside p h c i port e

pub spans_drawn : (p : Plan) → FitsEngine p → (i : ℕ) (ss : List Span) → AreSpans p i ss → All (λ (s : Span). IsDrawn p.design s.doing) ss
spans_drawn p f i ss a k d l =
    let s = get_or ss k d in
    let h = (spans_listed p i (last_clock p) ss a).are s (contains_member ss s (k, l, get_or_default ss k _ _ l)) in
    drawn_by p f s.first i s.doing (h.throughout s.first (omega arith) h.some)
