-- Spans cover each clock in which something is done, and each goes on where the one before it is over.
use Rattle.std.proofs.Common.{◌≡◌, ◌≢◌, ℕ, zero, suc, ◌+◌, ◌-◌, ◌<◌, ◌≤◌, List, refl, sym, ap, ◌∙◌, subst, arith, ◌⊎◌, inl, inr, Some, None}
use Rattle.std.proofs.Common.{Option, get_or, length}
use Rattle.std.proofs.{lemmas.Bool.cases_lt, lemmas.List.get_or_default}
use Rattle.std.specs.Prelude.{Contains}
use Rattle.timelines.specs.{Plan, Span, Doing, doing, IsSpan, AreSpansBelow, HasClock, GoesOnFrom}
use Rattle.timelines.proofs.{Lists.span, Existing.same_doing, Existing.none_stays, Extending.Does, Extending.some_same, Extending.some_none}

-- ---- the span of a clock

does_or : (p : Plan) (i c : ℕ) (d : Doing) → (doing p c i ≡ Some d) ⊎ (doing p c i ≢ Some d)
does_or p i c d = by_doing (doing p c i) refl
  where
    by_doing : (o : Option Doing) → doing p c i ≡ o → (o ≡ Some d) ⊎ (o ≢ Some d)
    by_doing None e = inr (some_none d)
    by_doing (Some g) e = elim (same_doing g d) [
      | inl same ↦ inl (ap (λ (x : Doing). Some x) same)
      | inr other ↦ inr (λ q. other (some_same g d q))
    ]

does_one : (p : Plan) (i c : ℕ) (d : Doing) → doing p c i ≡ Some d → Does p i c (suc c) d
does_one p i c d e x a b = let at : c ≡ x = omega arith in subst (λ (y : ℕ). doing p y i ≡ Some d) at e

does_more : (p : Plan) (i a c : ℕ) (d : Doing) → Does p i a c d → doing p c i ≡ Some d → Does p i a (suc c) d
does_more p i a c d f e x l m = elim (cases_lt x c) [
  | inl before ↦ f x l before
  | inr at ↦ let same : c ≡ x = omega arith in subst (λ (y : ℕ). doing p y i ≡ Some d) same e
]

-- the first clock from which on it does d up to clock c
record IsBegun (p : Plan) (i c : ℕ) (d : Doing) (first : ℕ) : Type 0 where
  pub within : first ≤ c
  pub does : Does p i first (suc c) d
  pub other : (x : ℕ) → x + 1 ≡ first → doing p x i ≢ Some d

begun : (p : Plan) (i : ℕ) (d : Doing) (c : ℕ) → doing p c i ≡ Some d → (first : ℕ) × IsBegun p i c d first
begun p i d zero e = (0, record { within = omega arith; does = does_one p i 0 d e; other = λ x q. absurd (omega arith) })
begun p i d (suc c) e = elim (does_or p i c d) [
  | inl goes ↦
      let (first, b) = begun p i d c goes in
      let within = b.within in
      (first, record { within = omega arith; does = does_more p i first (suc c) d b.does e; other = b.other })
  | inr stops ↦ (
    suc c,
    record {
      within = omega arith;
      does = does_one p i (suc c) d e;
      other = λ x q. let at : c ≡ x = omega arith in subst (λ (y : ℕ). doing p y i ≢ Some d) at stops;
    },
  )
]

-- the clock up to which it does d, from clock c on
record IsDone (p : Plan) (i first end : ℕ) (d : Doing) (until : ℕ) : Type 0 where
  pub below : until ≤ end
  pub does : Does p i first until d
  pub other : until < end → doing p until i ≢ Some d

done : (p : Plan) (i first end : ℕ) (d : Doing) (n c : ℕ) → c + n ≡ end → Does p i first c d
    → (until : ℕ) × (c ≤ until) × IsDone p i first end d until
done p i first end d zero c e f = (c, omega arith, record { below = omega arith; does = f; other = λ l. absurd (omega arith) })
done p i first end d (suc n) c e f = elim (does_or p i c d) [
  | inl goes ↦
      let (until, l, g) = done p i first end d n (suc c) (omega arith) (does_more p i first c d f goes) in
      (until, omega arith, g)
  | inr stops ↦ (c, omega arith, record { below = omega arith; does = f; other = λ l. stops })
]

span_of : (p : Plan) (i end c : ℕ) (d : Doing) → c < end → doing p c i ≡ Some d → (s : Span) × IsSpan p i end s × HasClock s c
span_of p i end c d l e =
    let (first, b) = begun p i d c e in
    let (until, m, g) = done p i first end d (end - suc c) (suc c) (omega arith) b.does in
    let within = b.within in (
      span first until d,
      record { some = omega arith; below = g.below; throughout = g.does; begins = b.other; ends = g.other },
      (within, m),
    )

pub covered : (p : Plan) (i end : ℕ) (ss : List Span) → AreSpansBelow p i end ss → (c : ℕ) → c < end → doing p c i ≢ None
    → (s : Span) × Contains ss s × HasClock s c
covered p i end ss a c l some = by_doing (doing p c i) refl some
  where
    by_doing : (o : Option Doing) → doing p c i ≡ o → o ≢ None → (s : Span) × Contains ss s × HasClock s c
    by_doing None e n = absurd (n refl)
    by_doing (Some d) e n = let (s, h, has) = span_of p i end c d l e in (s, (a.all s).1 h, has)

-- ---- neighbours

-- the span at a place
at : (p : Plan) (i end : ℕ) (ss : List Span) → AreSpansBelow p i end ss → (k : ℕ) (d : Span) → k < length ss → IsSpan p i end (get_or ss k
    d)
at p i end ss a k d l = (a.all (get_or ss k d)).0 (k, l, get_or_default ss k _ _ l)

-- something is done in each clock before one in which something is done
none_later : (p : Plan) (i n c : ℕ) → doing p c i ≡ None → doing p (n + c) i ≡ None
none_later p i zero c e = let same : 0 + c ≡ c = omega arith in rw same e
none_later p i (suc n) c e =
    let same : suc n + c ≡ suc (n + c) = omega arith in
    rw same (none_stays p (n + c) i (none_later p i n c e))

some_before : (p : Plan) (i b c : ℕ) (d : Doing) → b ≤ c → doing p c i ≡ Some d → doing p b i ≢ None
some_before p i b c d l e none =
    let same : (c - b) + b ≡ c = omega arith in
    some_none d (sym (subst (λ (x : ℕ). doing p x i ≡ None) same (none_later p i (c - b) b none)) ∙ e)

-- a clock in which something is done does not lie between the first k spans and the others
gap : (p : Plan) (i end : ℕ) (ss : List Span) → AreSpansBelow p i end ss → (k c : ℕ) → c < end → doing p c i ≢ None
    → ((j : ℕ) (d : Span) → j < length ss → j < k → (get_or ss j d).until ≤ c)
    → ((j : ℕ) (d : Span) → j < length ss → k ≤ j → c < (get_or ss j d).first) → ⊥
gap p i end ss a k c l some before after =
    let (s, (j, m, is), has) = covered p i end ss a c l some in
    elim (cases_lt j k) [
      | inl w ↦
          let over = before j s m w in
          let until = ap (λ (t : Span). t.until) is in
          let goes = has.1 in
          omega arith
      | inr w ↦
          let later = after j s m w in
          let first = ap (λ (t : Span). t.first) is in
          let began = has.0 in
          omega arith
    ]

-- a later span begins no earlier
not_before : (p : Plan) (i end : ℕ) (ss : List Span) → AreSpansBelow p i end ss → (k j : ℕ) (d : Span) → k ≤ j → j < length ss
    → (get_or ss k d).first ≤ (get_or ss j d).first
not_before p i end ss a k j d l m = elim (cases_lt k j) [
  | inl w ↦
      let order = a.in_order k j d w m in
      let some = (at p i end ss a k d (omega arith)).some in
      omega arith
  | inr w ↦ let same : k ≡ j = omega arith in subst (λ (n : ℕ). (get_or ss k d).first ≤ (get_or ss n d).first) same (omega arith)
]

-- an earlier one ends no later
not_after : (p : Plan) (i end : ℕ) (ss : List Span) → AreSpansBelow p i end ss → (j k : ℕ) (d : Span) → j ≤ k → k < length ss
    → (get_or ss j d).until ≤ (get_or ss k d).until
not_after p i end ss a j k d l m = elim (cases_lt j k) [
  | inl w ↦
      let order = a.in_order j k d w m in
      let some = (at p i end ss a k d m).some in
      omega arith
  | inr w ↦ let same : j ≡ k = omega arith in subst (λ (n : ℕ). (get_or ss j d).until ≤ (get_or ss n d).until) same (omega arith)
]

-- the first span begins in clock 0
pub begins_at_0 : (p : Plan) (i end : ℕ) (ss : List Span) → AreSpansBelow p i end ss → (d : Span) → 0 < length ss
    → (get_or ss 0 d).first ≡ 0
begins_at_0 p i end ss a d l = elim (cases_lt 0 (get_or ss 0 d).first) [
  | inr none ↦ omega arith
  | inl late ↦
      let h = at p i end ss a 0 d l in
      let some = h.some in
      let below = h.below in
      let does = h.throughout (get_or ss 0 d).first (omega arith) some in
      absurd (gap p i end ss a 0 0 (omega arith) (some_before p i 0 (get_or ss 0 d).first _ (omega arith) does)
      (λ j e m w. absurd (omega arith))
      (λ j e m w.
      let later = not_before p i end ss a 0 j e w m in
      let same = ap (λ (s : Span). s.first) (get_or_default ss 0 d e l) in
      omega arith))
]

-- the next span begins where one is over, and says something else
pub goes_on_from : (p : Plan) (i end : ℕ) (ss : List Span) → AreSpansBelow p i end ss → (k : ℕ) (d : Span) → k + 1 < length ss
    → GoesOnFrom (get_or ss k d) (get_or ss (k + 1) d)
goes_on_from p i end ss a k d l = record { joined = joined; differs = differs }
  where
    here : IsSpan p i end (get_or ss k d)
    here = at p i end ss a k d (omega arith)

    next : IsSpan p i end (get_or ss (k + 1) d)
    next = at p i end ss a (k + 1) d l

    order : (get_or ss k d).until ≤ (get_or ss (k + 1) d).first
    order = a.in_order k (k + 1) d (omega arith) l

    does : doing p (get_or ss (k + 1) d).first i ≡ Some (get_or ss (k + 1) d).doing
    does = next.throughout (get_or ss (k + 1) d).first (omega arith) next.some

    joined : (get_or ss (k + 1) d).first ≡ (get_or ss k d).until
    joined = elim (cases_lt (get_or ss k d).until (get_or ss (k + 1) d).first) [
      | inr none ↦ let together = order in omega arith
      | inl late ↦
          let some = next.some in
          let below = next.below in
          absurd (gap p i end ss a (k + 1) (get_or ss k d).until (omega arith)
          (some_before p i (get_or ss k d).until (get_or ss (k + 1) d).first _ order does)
          (λ j e m w.
          let over = not_after p i end ss a j k e (omega arith) (omega arith) in
          let same = ap (λ (s : Span). s.until) (get_or_default ss k d e (omega arith)) in
          omega arith)
          (λ j e m w.
          let later = not_before p i end ss a (k + 1) j e w m in
          let same = ap (λ (s : Span). s.first) (get_or_default ss (k + 1) d e l) in
          omega arith))
    ]

    differs : (get_or ss (k + 1) d).doing ≢ (get_or ss k d).doing
    differs same =
        let some = next.some in
        let below = next.below in
        let at = joined in
        here.ends (omega arith)
        (subst (λ (c : ℕ). doing p c i ≡ Some (get_or ss (k + 1) d).doing) joined does ∙ ap (λ (g : Doing). Some g) same)
