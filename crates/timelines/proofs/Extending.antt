-- The spans below a clock, and those below a later one.
use Rattle.std.proofs.Common.{◌≡◌, ◌≢◌, ℕ, ◌+◌, ◌-◌, ◌<◌, ◌≤◌, List, [], ◌∷◌, ◌++◌, refl, sym, ap, ◌∙◌, subst, arith, ◌⊎◌, inl, inr, Some}
use Rattle.std.proofs.Common.{None, get_or}
use Rattle.std.proofs.{lemmas.List.get_or_default, lemmas.Bool.cases_lt}
use Rattle.std.specs.Prelude.{All}
use Rattle.timelines.specs.{Plan, Span, Doing, doing, IsSpan, AreSpansBelow}
use Rattle.timelines.proofs.Lists.{span, span_is, Member, member_contains, contains_member, member_left, member_last, member_cases, Rising}
use Rattle.timelines.proofs.Lists.{rising_pairs, pairs_rising, rising_more, rising_front, rising_last, same_spans}

-- ---- the spans, by members

pub record Listed (p : Plan) (i end : ℕ) (ss : List Span) : Type 0 where
  pub are : (s : Span) → Member ss s → IsSpan p i end s
  pub all : (s : Span) → IsSpan p i end s → Member ss s
  pub rising : Rising ss

pub listed_spans : (p : Plan) (i end : ℕ) (ss : List Span) → Listed p i end ss → AreSpansBelow p i end ss
listed_spans p i end ss l = record {
  all = λ s. (λ c. l.are s (contains_member ss s c), λ h. member_contains ss s (l.all s h));
  in_order = rising_pairs ss l.rising;
}

pub spans_listed : (p : Plan) (i end : ℕ) (ss : List Span) → AreSpansBelow p i end ss → Listed p i end ss
spans_listed p i end ss a = record {
  are = λ s m. (a.all s).0 (member_contains ss s m);
  all = λ s h. contains_member ss s ((a.all s).1 h);
  rising = pairs_rising ss a.in_order;
}

-- there is one list of them at most
pub only_spans : (p : Plan) (i end : ℕ) (ss ts : List Span) → AreSpansBelow p i end ss → AreSpansBelow p i end ts → ss ≡ ts
only_spans p i end ss ts a b =
    let x = spans_listed p i end ss a in
    let y = spans_listed p i end ts b in
    same_spans ss ts (λ s m. (x.are s m).some) (λ s m. y.all s (x.are s m)) (λ s m. x.all s (y.are s m)) x.rising y.rising

-- ---- below a later clock

-- it does d in each clock from one to another
abbrev pub Does : Plan → ℕ → ℕ → ℕ → Doing → Type 0
Does p i a b d = (c : ℕ) → a ≤ c → c < b → doing p c i ≡ Some d

pub some_same : (x y : Doing) → Some x ≡ Some y → x ≡ y
some_same x y e = cc

pub some_none : (d : Doing) → None ≡ Some d → ⊥
some_none d e = cc

-- a span below the earlier clock is one below the later one, unless it goes on
still_span : (p : Plan) (i a b : ℕ) (s : Span) → a ≤ b → IsSpan p i a s → (s.until ≡ a → doing p a i ≢ Some s.doing) → IsSpan p i b s
still_span p i a b s l h f = record {
  some = h.some;
  below = let q = h.below in omega arith;
  throughout = h.throughout;
  begins = h.begins;
  ends = λ w. elim (cases_lt s.until a) [
    | inl q ↦ h.ends q
    | inr q ↦
        let e : s.until ≡ a = let r = h.below in omega arith in
        λ g. f e (subst (λ (c : ℕ). doing p c i ≡ Some s.doing) e g)
  ];
}

-- and back
cut_span : (p : Plan) (i a b : ℕ) (s : Span) → a ≤ b → IsSpan p i b s → s.until ≤ a → IsSpan p i a s
cut_span p i a b s l h q = record {
  some = h.some;
  below = q;
  throughout = h.throughout;
  begins = h.begins;
  ends = λ w. h.ends (omega arith);
}

-- a span that goes past clock a does what is done from there to b, and so ends in b
past_doing : (p : Plan) (i a b : ℕ) (d : Doing) (s : Span) → Does p i a b d → IsSpan p i b s → a < s.until → s.doing ≡ d
past_doing p i a b d s f h q =
    let n = h.some in
    let m = h.below in
    some_same s.doing d (sym (h.throughout (s.until - 1) (omega arith) (omega arith)) ∙ f (s.until - 1) (omega arith) (omega arith))

past_until : (p : Plan) (i a b : ℕ) (d : Doing) (s : Span) → Does p i a b d → IsSpan p i b s → a < s.until → s.until ≡ b
past_until p i a b d s f h q = elim (cases_lt s.until b) [
  | inr r ↦ let m = h.below in omega arith
  | inl r ↦ absurd (h.ends r (f s.until (omega arith) r ∙ ap (λ (x : Doing). Some x) (sym (past_doing p i a b d s f h q))))
]

-- where d is done from f to b, and not in the clock before, such a span begins in f
past_first : (p : Plan) (i f a b : ℕ) (d : Doing) (s : Span) → f ≤ a → Does p i f b d → ((c : ℕ) → c + 1 ≡ f → doing p c i ≢ Some d)
    → IsSpan p i b s → a < s.until → s.doing ≡ d → s.first ≡ f
past_first p i f a b d s l g n h q e = elim (cases_lt s.first f) [
  | inl r ↦ absurd (n (f - 1) (omega arith)
      (h.throughout (f - 1) (omega arith) (omega arith) ∙ ap (λ (x : Doing). Some x) e))
  | inr r ↦ elim (cases_lt f s.first) [
    | inl w ↦ absurd (h.begins (s.first - 1) (omega arith)
        (let m = h.below in let k = h.some in g (s.first - 1) (omega arith) (omega arith) ∙ ap (λ (x : Doing). Some x) (sym e)))
    | inr w ↦ omega arith
  ]
]

new_span : (p : Plan) (i f b : ℕ) (d : Doing) → f < b → Does p i f b d → ((c : ℕ) → c + 1 ≡ f → doing p c i ≢ Some d)
    → IsSpan p i b (span f b d)
new_span p i f b d l g n = record {
  some = l;
  below = omega arith;
  throughout = g;
  begins = n;
  ends = λ w. absurd (omega arith);
}

-- a span more
pub span_more : (p : Plan) (i a b : ℕ) (d : Doing) (ss : List Span) → Listed p i a ss → a < b → Does p i a b d
    → ((c : ℕ) → c + 1 ≡ a → doing p c i ≢ Some d) → Listed p i b (ss ++ span a b d ∷ [])
span_more p i a b d ss l q f n = record {
  are = λ s m. are s (member_cases ss (span a b d) s m);
  all = all;
  rising = rising_more ss (span a b d) l.rising (λ s m. (l.are s m).below);
}
  where
    old : (s : Span) → Member ss s → IsSpan p i b s
    old s m =
        let h = l.are s m in
        let k = h.some in
        still_span p i a b s (omega arith) h
        (λ e g. n (a - 1) (omega arith)
        (h.throughout (a - 1) (omega arith) (omega arith)
        ∙ (sym g ∙ f a (omega arith) q)))

    are : (s : Span) → Member ss s ⊎ (span a b d ≡ s) → IsSpan p i b s
    are s (inl m) = old s m
    are s (inr e) = subst (IsSpan p i b) e (new_span p i a b d q f n)

    all : (s : Span) → IsSpan p i b s → Member (ss ++ span a b d ∷ []) s
    all s h = elim (cases_lt a s.until) [
      | inr r ↦ member_left ss (span a b d ∷ []) s (l.all s (cut_span p i a b s (omega arith) h r))
      | inl r ↦
          let e = past_doing p i a b d s f h r in
          member_last ss (span a b d) s (span_is s a b d (past_first p i a a b d s (omega arith) f n h r e)
          (past_until p i a b d s f h r) e)
    ]

-- the last span goes on
pub span_longer : (p : Plan) (i first a b : ℕ) (d : Doing) (ss : List Span) → Listed p i a (ss ++ span first a d ∷ []) → a < b
    → Does p i a b d → Listed p i b (ss ++ span first b d ∷ [])
span_longer p i first a b d ss l q f = record {
  are = λ s m. are s (member_cases ss (span first b d) s m);
  all = all;
  rising = rising_more ss (span first b d) (rising_front ss (span first a d) l.rising) (rising_last ss (span first a d) l.rising);
}
  where
    last : IsSpan p i a (span first a d)
    last = l.are (span first a d) (member_last ss (span first a d) (span first a d) refl)

    does : Does p i first b d
    does c x y = elim (cases_lt c a) [
      | inl w ↦ last.throughout c x w
      | inr w ↦ f c w y
    ]

    are : (s : Span) → Member ss s ⊎ (span first b d ≡ s) → IsSpan p i b s
    are s (inl m) =
        still_span p i a b s (omega arith) (l.are s (member_left ss (span first a d ∷ []) s m))
        (λ e. absurd (omega (arith, rising_last ss (span first a d) l.rising s m, last.some)))
    are s (inr e) = subst (IsSpan p i b) e (new_span p i first b d (omega (arith, last.some)) does last.begins)

    front : (s : Span) → s.until < a → Member ss s ⊎ (span first a d ≡ s) → Member ss s
    front s w (inl m) = m
    front s w (inr e) = absurd (omega (arith, ap (λ (t : Span). t.until) e))

    all : (s : Span) → IsSpan p i b s → Member (ss ++ span first b d ∷ []) s
    all s h = elim (cases_lt s.until a) [
      | inl r ↦
          member_left ss (span first b d ∷ []) s
          (front s r (member_cases ss (span first a d) s (l.all s (cut_span p i a b s (omega arith) h (omega arith)))))
      | inr r ↦ elim (cases_lt a s.until) [
        | inl w ↦
            let e = past_doing p i a b d s f h w in
            member_last ss (span first b d) s (span_is s first b d
            (past_first p i first a b d s (omega (arith, last.some)) does last.begins h w e) (past_until p i a b d s f h w) e)
        | inr w ↦
            let k = h.some in
            let k' = last.some in
            let z : s.until ≡ a = omega arith in
            let e = some_same s.doing d (sym (h.throughout (a - 1) (omega arith) (omega arith))
            ∙ last.throughout (a - 1) (omega arith) (omega arith)) in
            absurd (h.ends (omega arith) (ap (λ (c : ℕ). doing p c i) z ∙ (f a (omega arith) q ∙ ap (λ (x : Doing). Some x) (sym e))))
      ]
    ]

-- a module that is over has no further span
pub span_over : (p : Plan) (i a b : ℕ) (ss : List Span) → Listed p i a ss → a ≤ b → ((c : ℕ) → a ≤ c → c < b → doing p c i ≡ None)
    → Listed p i b ss
span_over p i a b ss l q f = record {
  are = λ s m. old s (l.are s m);
  all = λ s h. all s h;
  rising = l.rising;
}
  where
    old : (s : Span) → IsSpan p i a s → IsSpan p i b s
    old s h = elim (cases_lt a b) [
      | inl w ↦ still_span p i a b s q h (λ e g. some_none s.doing (sym (f a (omega arith) w) ∙ g))
      | inr w ↦ let z : a ≡ b = omega arith in subst (λ (c : ℕ). IsSpan p i c s) z h
    ]

    all : (s : Span) → IsSpan p i b s → Member ss s
    all s h = elim (cases_lt a s.until) [
      | inr r ↦ l.all s (cut_span p i a b s q h r)
      | inl r ↦
          let k = h.some in
          let m = h.below in
          absurd (some_none s.doing (sym (f (s.until - 1) (omega arith) (omega arith))
          ∙ h.throughout (s.until - 1) (omega arith) (omega arith)))
    ]

-- there is none below clock 0
pub span_none : (p : Plan) (i : ℕ) → Listed p i 0 []
span_none p i = record {
  are = λ s m. absurd m;
  all = λ s h. let k = h.some in let m = h.below in absurd (omega arith);
  rising = tt;
}

-- no span ends before it begins
pub spans_order : (p : Plan) (i end : ℕ) (ss : List Span) → AreSpansBelow p i end ss → All (λ (s : Span). s.first ≤ s.until) ss
spans_order p i end ss a k d l =
    let s = get_or ss k d in
    let h = ((spans_listed p i end ss a).are s (contains_member ss s (k, l, get_or_default ss k _ _ l))).some in
    omega arith
