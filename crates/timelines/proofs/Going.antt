-- Spans that go on from where they come to.
use Rattle.std.proofs.Common.{◌≡◌, ◌≢◌, ℕ, suc, ◌+◌, ◌-◌, ◌<◌, List, [], ◌∷◌, ◌++◌, refl, sym, ap, ◌∙◌, subst, arith, length, take, get_or}
use Rattle.std.proofs.Common.{Some, inl, inr}
use Rattle.std.proofs.lemmas.Bool.{cases_lt}
use Rattle.timelines.specs.{Plan, Span, Doing, doing, AreSpansBelow, last_span, reached, Comes, Does}
use Rattle.timelines.proofs.Lists.{span, Member, member_last}
use Rattle.timelines.proofs.Extending.{Listed, listed_spans, spans_listed, span_more, span_longer, some_same}

some_long : (ss : List Span) (x : Span) → 0 < length (ss ++ x ∷ [])
some_long [] x = omega arith
some_long (s ∷ ss) x = omega arith

last_is : (ss : List Span) (x d : Span) → get_or (ss ++ x ∷ []) (length (ss ++ x ∷ []) - 1) d ≡ x
last_is [] x d = refl
last_is (s ∷ ss) x d =
    let e : length (s ∷ (ss ++ x ∷ [])) - 1 ≡ suc (length (ss ++ x ∷ []) - 1) = omega (arith, some_long ss x) in
    ap (λ (n : ℕ). get_or (s ∷ (ss ++ x ∷ [])) n d) e ∙ last_is ss x d

front_last : (ss : List Span) (d : Span) → 0 < length ss → ss ≡ take (length ss - 1) ss ++ get_or ss (length ss - 1) d ∷ []
front_last [] d l = absurd (omega arith)
front_last (s ∷ []) d l = refl
front_last (s ∷ t ∷ ss) d l =
    let e : length (s ∷ t ∷ ss) - 1 ≡ suc (length (t ∷ ss) - 1) = omega arith in
    subst (λ (n : ℕ). s ∷ t ∷ ss ≡ take n (s ∷ t ∷ ss) ++ get_or (s ∷ t ∷ ss) n d ∷ []) (sym e)
    (ap (λ (l : List Span). s ∷ l) (front_last (t ∷ ss) d (omega arith)))

-- spans that end in a clock come to it
come_to : (p : Plan) (i b : ℕ) (front : List Span) (x : Span) → x.until ≡ b → Listed p i b (front ++ x ∷ []) → Comes p i (front ++ x ∷ [])
come_to p i b front x e l =
    let z = sym e ∙ sym (ap (λ (s : Span). s.until) (last_is front x _)) in
    subst (λ (n : ℕ). AreSpansBelow p i n (front ++ x ∷ [])) z (listed_spans p i b (front ++ x ∷ []) l)

pub comes_more : (ss : List Span) (u : ℕ) (d : Doing) → reached ss < u → (0 < length ss → (last_span ss).doing ≢ d) → (p : Plan) (i : ℕ)
    → Comes p i ss → Does p i (reached ss) u d → Comes p i (ss ++ span (reached ss) u d ∷ [])
comes_more ss u d q n p i h f = come_to p i u ss (span (reached ss) u d) refl (span_more p i (reached ss) u d ss l q f fresh)
  where
    l : Listed p i (reached ss) ss
    l = spans_listed p i (reached ss) ss h

    none : (ts : List Span) → length ts ≡ 0 → reached ts ≡ 0
    none [] e = refl
    none (t ∷ ts) e = absurd (omega arith)

    fresh : (c : ℕ) → c + 1 ≡ reached ss → doing p c i ≢ Some d
    fresh c e g = elim (cases_lt 0 (length ss)) [
      | inl w ↦
          let m = subst (λ (xs : List Span). Member xs (last_span ss)) (sym (front_last ss _ w))
          (member_last (take (length ss - 1) ss) (last_span ss) (last_span ss) refl) in
          let t = l.are (last_span ss) m in
          let k = t.some in
          n w (some_same (last_span ss).doing d (sym (t.throughout c (omega arith) (omega arith)) ∙ g))
      | inr w ↦ absurd (omega (arith, none ss (omega arith)))
    ]

pub comes_longer : (ss : List Span) (u : ℕ) (d : Doing) → reached ss < u → 0 < length ss → (last_span ss).doing ≡ d → (p : Plan) (i : ℕ)
    → Comes p i ss → Does p i (reached ss) u d
    → Comes p i (take (length ss - 1) ss ++ span (last_span ss).first u (last_span ss).doing ∷ [])
comes_longer ss u d q w e p i h f =
    let last = last_span ss in
    let front = take (length ss - 1) ss in
    let l = subst (λ (xs : List Span). Listed p i (reached ss) xs) (front_last ss _ w) (spans_listed p i (reached ss) ss h) in
    come_to p i u front (span last.first u last.doing) refl
    (span_longer p i last.first (reached ss) u last.doing front l q
    (λ c x y. f c x y ∙ ap (λ (z : Doing). Some z) (sym e)))
