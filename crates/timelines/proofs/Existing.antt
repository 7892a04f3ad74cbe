-- There are spans below each clock.
use Rattle.std.proofs.Common.{◌≡◌, ◌≢◌, ℕ, zero, suc, ◌+◌, ◌-◌, ◌<◌, ◌≤◌, List, [], ◌∷◌, ◌++◌, refl, sym, ap, ◌∙◌, subst, arith, ◌⊎◌, inl}
use Rattle.std.proofs.Common.{inr, Some, None, Option, Bool, true, false, not, ◌&&◌, cond, length, ap₂}
use Rattle.std.proofs.lemmas.Bool.{cases_lt, cases_eq, cond-false}
use Rattle.std.proofs.{lemmas.List.get_or_past, lemmas.List.Sums.sum_by_push}
use Rattle.timelines.specs.{Port, Side, Plan, is_over, nobody, stalls, moves, state, state_at, requests_of, Span, Doing, doing, doing_by}
use Rattle.timelines.specs.{blocker, AreSpansBelow, is_moving, clocks_in, span_clocks, spans_clocks}
use Rattle.timelines.specs.declared.span.Doing.TheVariants.{Moves, Still}
use Rattle.flow_word.specs.declared.access.Side.TheVariants.{Pop, Push}
use Rattle.std.specs.List.{list_any}
use Rattle.lockstep_defs.proofs.Agrees.{all_modules, state_at-suc}
use Rattle.timelines.proofs.{Lists.span, Lists.span_is, Lists.member_last, Causes.over-doing}
use Rattle.timelines.proofs.Extending.{Listed, listed_spans, only_spans, span_more, span_longer, span_over, span_none, Does, some_same}
use Rattle.timelines.proofs.Counting.{clocks_none, clocks_over, clocks_done}

-- ---- a module that is over stays so

pub nobody_over : (limit : ℕ) → is_over limit nobody ≡ true
unfolding is_over
nobody_over limit = refl

over_stays : (p : Plan) (c i : ℕ) → is_over p.ops (state_at p c i) ≡ true → is_over p.ops (state_at p (suc c) i) ≡ true
unfolding moves
over_stays p c i e = elim (cases_lt i (length p.design.modules)) [
  | inl l ↦
      let still : moves p c (state p c).contents (i, state_at p c i) ≡ false = ap
      (λ (b : Bool). not b && not (list_any (stalls p c (state p c).contents) (requests_of p (i, state_at p c i)))) e in
      ap (is_over p.ops) (state_at-suc p c i l ∙ cond-false (moves p c (state p c).contents (i, state_at p c i)) _ _ still) ∙ e
  | inr l ↦
      let past = get_or_past (state p (suc c)).modules i nobody (omega (arith, all_modules p (suc c))) in
      ap (is_over p.ops) past ∙ nobody_over p.ops
]

over_is : (p : Plan) (c i : ℕ) → doing p c i ≡ None → is_over p.ops (state_at p c i) ≡ true
unfolding doing
over_is p c i e = by_test (is_over p.ops (state_at p c i)) e
  where
    by_test : (b : Bool) → cond b None (Some (doing_by (blocker p c i))) ≡ None → b ≡ true
    by_test true h = refl
    by_test false h = cc

pub none_stays : (p : Plan) (c i : ℕ) → doing p c i ≡ None → doing p (suc c) i ≡ None
none_stays p c i e = over-doing p (suc c) i (over_stays p c i (over_is p c i e))

-- ---- what a module does is the same or another

still_same : (a b : Port) → Still a ≡ Still b → a ≡ b
still_same a b e = cc

same_side : (a b : Side) → (a ≡ b) ⊎ (a ≢ b)
same_side Pop Pop = inl refl
same_side Pop Push = inr (λ e. cc)
same_side Push Pop = inr (λ e. cc)
same_side Push Push = inl refl

pub same_doing : (x y : Doing) → (x ≡ y) ⊎ (x ≢ y)
same_doing Moves Moves = inl refl
same_doing Moves (Still b) = inr (λ e. cc)
same_doing (Still a) Moves = inr (λ e. cc)
same_doing (Still a) (Still b) = later (same_side a.side b.side) (cases_eq a.channel b.channel)
  where
    later : (a.side ≡ b.side) ⊎ (a.side ≢ b.side) → (a.channel ≡ b.channel) ⊎ (a.channel ≢ b.channel)
        → (Still a ≡ Still b) ⊎ (Still a ≢ Still b)
    later (inl e) (inl f) = inl (ap₂ (λ (s : Side) (c : ℕ). Still (record { side = s; channel = c })) e f)
    later (inl e) (inr n) = inr (λ g. n (ap (λ (q : Port). q.channel) (still_same a b g)))
    later (inr n) f = inr (λ g. n (ap (λ (q : Port). q.side) (still_same a b g)))

-- after the last span nothing is left: it ends in this clock
abbrev pub EndsAt : ℕ → List Span → Type 0
EndsAt a [] = a ≡ 0
EndsAt a (s ∷ []) = s.until ≡ a
EndsAt a (s ∷ t ∷ ss) = EndsAt a (t ∷ ss)

-- the last span, where there is one
last_of : (a : ℕ) (ss : List Span) → EndsAt a ss
    → ((ss ≡ []) × (a ≡ 0)) ⊎ ((front : List Span) × (first : ℕ) × (d : Doing) × (ss ≡ front ++ span first a d ∷ []))
last_of a [] h = inl (refl, h)
last_of a (s ∷ []) h = inr ([], s.first, s.doing, ap (λ (t : Span). t ∷ []) (sym (span_is s s.first a s.doing refl h refl)))
last_of a (s ∷ t ∷ ss) h = later (last_of a (t ∷ ss) h)
  where
    later : ((t ∷ ss ≡ []) × (a ≡ 0)) ⊎ ((front : List Span) × (first : ℕ) × (d : Doing) × (t ∷ ss ≡ front ++ span first a d ∷ []))
        → ((s ∷ t ∷ ss ≡ []) × (a ≡ 0)) ⊎ ((front : List Span) × (first : ℕ) × (d : Doing) × (s ∷ t ∷ ss ≡ front ++ span first a d ∷ []))
    later (inl (e, z)) = cc
    later (inr (front, first, d, e)) = inr (s ∷ front, first, d, ap (λ (l : List Span). s ∷ l) e)

ends_last : (b : ℕ) (ss : List Span) (s : Span) → s.until ≡ b → EndsAt b (ss ++ s ∷ [])
ends_last b [] s e = e
ends_last b (t ∷ []) s e = e
ends_last b (t ∷ u ∷ ss) s e = ends_last b (u ∷ ss) s e

-- the clocks of an interval up to a later one
longer_clocks : (x : Bool) (t first a b : ℕ) → first ≤ a → a ≤ b → t + cond x (b - first) 0 ≡ (t + cond x (a - first) 0) + cond x (b - a) 0
longer_clocks true t first a b l q = omega arith
longer_clocks false t first a b l q = omega arith

-- these are spans below clock b, with so many clocks that pass the test
abbrev AreCounted : (Doing → Bool) → Plan → ℕ → ℕ → ℕ → List Span → Type 0
AreCounted test p i b n ts = Listed p i b ts × (spans_clocks test ts ≡ n)

-- the spans below a clock after which a module goes on, with what it does from there to a later clock
spans_on : (test : Doing → Bool) (p : Plan) (i a b : ℕ) (d : Doing) (ss : List Span) → Listed p i a ss → EndsAt a ss → a < b
    → Does p i a b d
    → (ts : List Span) × AreCounted test p i b (spans_clocks test ss + cond (test d) (b - a) 0) ts × EndsAt b ts
spans_on test p i a b d ss l e q f = by_last (last_of a ss e)
  where
    more : ((c : ℕ) → c + 1 ≡ a → doing p c i ≢ Some d)
        → (ts : List Span) × AreCounted test p i b (spans_clocks test ss + cond (test d) (b - a) 0) ts × EndsAt b ts
    more n = (
      ss ++ span a b d ∷ [],
      (span_more p i a b d ss l q f n, sum_by_push (span_clocks test) ss (span a b d)),
      ends_last b ss (span a b d) refl,
    )

    by_last : ((ss ≡ []) × (a ≡ 0)) ⊎ ((front : List Span) × (first : ℕ) × (g : Doing) × (ss ≡ front ++ span first a g ∷ []))
        → (ts : List Span) × AreCounted test p i b (spans_clocks test ss + cond (test d) (b - a) 0) ts × EndsAt b ts
    by_last (inl (n, z)) = more (λ c w. absurd (omega arith))
    by_last (inr (front, first, g, n)) =
        let l' = subst (Listed p i a) n l in
        let last = l'.are (span first a g) (member_last front (span first a g) (span first a g) refl) in
        let some : first < a = last.some in
        elim (same_doing g d) [
          | inl w ↦ (
            front ++ span first b d ∷ [],
            (
              span_longer p i first a b d front (subst (λ (x : Doing). Listed p i a (front ++ span first a x ∷ [])) w l') q f,
              sum_by_push (span_clocks test) front (span first b d)
                  ∙ (longer_clocks (test d) (spans_clocks test front) first a b (omega arith) (omega arith)
                  ∙ ap (λ (k : ℕ). k + cond (test d) (b - a) 0)
                  (ap (λ (x : Doing). spans_clocks test front + cond (test x) (a - first) 0) (sym w)
                  ∙ (sym (sum_by_push (span_clocks test) front (span first a g)) ∙ ap (spans_clocks test) (sym n)))),
            ),
            ends_last b front (span first b d) refl,
          )
          | inr w ↦ more (λ c k h. w (some_same g d (sym (last.throughout c (omega arith) (omega arith)) ∙ h)))
        ]

-- below each clock there are spans, which have all clocks in which the module does something; and after them it goes on, unless it is over
some_spans : (test : Doing → Bool) (p : Plan) (i n : ℕ)
    → (ss : List Span) × AreCounted test p i n (clocks_in test p i n) ss × (EndsAt n ss ⊎ (doing p n i ≡ None))
some_spans test p i zero = ([], (span_none p i, sym (clocks_none test p i)), inl refl)
some_spans test p i (suc n) = later (some_spans test p i n)
  where
    over : (ss : List Span) → AreCounted test p i n (clocks_in test p i n) ss → doing p n i ≡ None
        → (ss : List Span) × AreCounted test p i (suc n) (clocks_in test p i (suc n)) ss × (EndsAt (suc n) ss ⊎ (doing p (suc n) i ≡ None))
    over ss (l, t) e = (
      ss,
      (
        span_over p i n (suc n) ss l (omega arith) (λ c x y. let z : n ≡ c = omega arith in
            subst (λ (k : ℕ). doing p k i ≡ None) z e),
        t ∙ sym (clocks_over test p i n e),
      ),
      inr (none_stays p n i e),
    )

    by_doing : (ss : List Span) → AreCounted test p i n (clocks_in test p i n) ss → EndsAt n ss → (o : Option Doing) → doing p n i ≡ o
        → (ss : List Span) × AreCounted test p i (suc n) (clocks_in test p i (suc n)) ss × (EndsAt (suc n) ss ⊎ (doing p (suc n) i ≡ None))
    by_doing ss l h None e = over ss l e
    by_doing ss (l, t) h (Some d) e =
        let (ts, (m, u), g) = spans_on test p i n (suc n) d ss l h (omega arith) (λ c x y. let z : n ≡ c = omega arith in
        subst (λ (k : ℕ). doing p k i ≡ Some d) z e) in
        let one : suc n - n ≡ 1 = omega arith in (
          ts,
          (
            m,
            u ∙ (ap₂ (λ (x y : ℕ). x + cond (test d) y 0) t one ∙ sym (clocks_done test p i n d e)),
          ),
          inl g,
        )

    later : (ss : List Span) × AreCounted test p i n (clocks_in test p i n) ss × (EndsAt n ss ⊎ (doing p n i ≡ None))
        → (ss : List Span) × AreCounted test p i (suc n) (clocks_in test p i (suc n)) ss × (EndsAt (suc n) ss ⊎ (doing p (suc n) i ≡ None))
    later (ss, l, inl h) = by_doing ss l h (doing p n i) refl
    later (ss, l, inr e) = over ss l e

pub are_spans : (p : Plan) (i n : ℕ) → (ss : List Span) × AreSpansBelow p i n ss
are_spans p i n = let (ss, (l, t), h) = some_spans is_moving p i n in (ss, listed_spans p i n ss l)

-- the clocks of the spans below a clock are those in which something is done
pub counted_spans : (test : Doing → Bool) (p : Plan) (i n : ℕ) (spans : List Span) → AreSpansBelow p i n spans
    → spans_clocks test spans ≡ clocks_in test p i n
counted_spans test p i n spans a =
    let (ss, (l, t), h) = some_spans test p i n in
    ap (spans_clocks test) (only_spans p i n spans ss a (listed_spans p i n ss l)) ∙ t
