-- The first point that none beats is the best one.
use Rattle.std.proofs.Common.{◌≡◌, refl, sym, ◌∙◌, ap, ap₂, subst, arith, ℕ, zero, suc, ◌<◌, ◌≤◌, ◌==◌, ◌&&◌, ◌||◌, not, Bool, true, false}
use Rattle.std.proofs.Common.{List, [], ◌∷◌, length, get_or, sum, nat_lt, None, Some, ◌⊎◌, inl, inr}
use Rattle.std.proofs.lemmas.Bool.{cases_lt, le-ltb, lt-ltb, eq-eqb, eqb-true}
use Rattle.std.specs.{Prelude.find, List.list_any}
use Rattle.whole_answer.specs.{Verdict, Point, IsBest, IsDoneAt, point_at, no_point, is_done, ending_of, is_done_at, beats, best_of}
use Rattle.flow_design.specs.declared.report.Verdict.TheVariants.{Done, Deadlock, Cycles, Ops}

-- ---- lists

module _ {X : Type 0} (p : X → Bool) where
  pub find_first : (xs : List X) (i : ℕ) (d : X) → i < length xs → p (get_or xs i d) ≡ true
      → ((k : ℕ) → k < i → p (get_or xs k d) ≡ false) → find p xs ≡ Some (get_or xs i d)
  find_first [] i d inside here before = absurd (omega arith)
  find_first (x ∷ xs) zero d inside here before = rw here refl
  find_first (x ∷ xs) (suc i) d inside here before =
      rw (before 0 (omega arith)) (find_first xs i d (omega arith) here (λ k h. before (suc k) (omega arith)))

  pub find_nothing : (xs : List X) (d : X) → ((k : ℕ) → k < length xs → p (get_or xs k d) ≡ false) → find p xs ≡ None
  find_nothing [] d none = refl
  find_nothing (x ∷ xs) d none = rw (none 0 (omega arith)) (find_nothing xs d (λ k h. none (suc k) (omega arith)))

  any_of : (xs : List X) (i : ℕ) (d : X) → i < length xs → p (get_or xs i d) ≡ true → list_any p xs ≡ true
  any_of [] i d inside here = absurd (omega arith)
  any_of (x ∷ xs) zero d inside here = rw here refl
  any_of (x ∷ xs) (suc i) d inside here = go (p x) (any_of xs i d (omega arith) here)
    where
      go : (b : Bool) → list_any p xs ≡ true → (b || list_any p xs) ≡ true
      go true e = refl
      go false e = e

  none_of : (xs : List X) (d : X) → ((k : ℕ) → k < length xs → p (get_or xs k d) ≡ false) → list_any p xs ≡ false
  none_of [] d none = refl
  none_of (x ∷ xs) d none = rw (none 0 (omega arith)) (none_of xs d (λ k h. none (suc k) (omega arith)))

-- ---- one point beside another

done_or_not : (v : Verdict) → (is_done (ending_of v) ≡ false) ⊎ ((l : ℕ) × (v ≡ Done l))
done_or_not (Done l) = inr (l, refl)
done_or_not (Deadlock l) = inl refl
done_or_not (Cycles l) = inl refl
done_or_not (Ops l) = inl refl

not_before : (l c s t : ℕ) → c ≤ l → (l ≡ c → t ≤ s) → (nat_lt l c || (l == c && nat_lt s t)) ≡ false
not_before l c s t later tie = rw (le-ltb l c later) (go (l == c) refl)
  where
    go : (b : Bool) → (l == c) ≡ b → (b && nat_lt s t) ≡ false
    go true e = le-ltb s t (tie (eqb-true l c e))
    go false e = refl

is_before : (l c s t : ℕ) → (l < c) ⊎ ((l ≡ c) × (s < t)) → (nat_lt l c || (l == c && nat_lt s t)) ≡ true
is_before l c s t (inl less) = rw (lt-ltb l c less) refl
is_before l c s t (inr tie) =
    let same : c ≤ l = omega (arith, tie.0) in
    rw (le-ltb l c same, eq-eqb l c tie.0) (lt-ltb s t tie.1)

undone_beats_none : (p q : Point) → is_done_at p ≡ false → beats p q ≡ false
undone_beats_none p q e = rw e refl

beats_not : (p q : Point) (l c : ℕ) → p.verdict ≡ Done l → q.verdict ≡ Done c → c ≤ l → (l ≡ c → sum q.depths ≤ sum p.depths)
    → beats p q ≡ false
beats_not p q l c e f later tie = rw (e, f) (not_before l c (sum p.depths) (sum q.depths) later tie)

beats_it : (p q : Point) (l c : ℕ) → p.verdict ≡ Done l → q.verdict ≡ Done c → (l < c) ⊎ ((l ≡ c) × (sum p.depths < sum q.depths))
    → beats p q ≡ true
beats_it p q l c e f before = rw (e, f) (is_before l c (sum p.depths) (sum q.depths) before)

and_false : (b : Bool) → (b && false) ≡ false
and_false true = refl
and_false false = refl

-- ---- the best

module _ (points : List Point) where
  done_there : (k l : ℕ) → k < length points → (point_at points k).verdict ≡ Done l → IsDoneAt points k l (sum (point_at points k).depths)
  done_there k l inside e = record { within = inside; verdict = e; depths = refl }

  is_undone : (k : ℕ) (b : Bool) → is_done_at (point_at points k) ≡ false → (is_done_at (point_at points k) && b) ≡ false
  is_undone k b e = rw e refl

  is_beaten : (k : ℕ) → list_any (λ q. beats q (point_at points k)) points ≡ true
      → (is_done_at (point_at points k) && not (list_any (λ q. beats q (point_at points k)) points)) ≡ false
  is_beaten k e = ap (λ (b : Bool). is_done_at (point_at points k) && not b) e ∙ and_false (is_done_at (point_at points k))

  -- no point is done
  pub best_none : ((place latency total : ℕ) → ¬ IsDoneAt points place latency total) → best_of points ≡ None
  unfolding best_of
  best_none none = find_nothing (λ p. is_done_at p && not (list_any (λ q. beats q p) points)) points no_point (λ k inside.
      elim (done_or_not (point_at points k).verdict) [
        | inl e ↦ is_undone k (not (list_any (λ q. beats q (point_at points k)) points)) e
        | inr d ↦ absurd (none k d.0 (sum (point_at points k).depths) (done_there k d.0 inside d.1))
      ])

  module _ (i : ℕ) (best : IsBest points i) where
    abbrev own : Point
    own = point_at points i

    beaten_by_none : (k : ℕ) → k < length points → beats (point_at points k) own ≡ false
    beaten_by_none k inside = elim (done_or_not (point_at points k).verdict) [
      | inl e ↦ undone_beats_none (point_at points k) own e
      | inr d ↦
          let there = done_there k d.0 inside d.1 in
          beats_not (point_at points k) own d.0 best.latency d.1 best.done.verdict
          (best.fastest k d.0 (sum (point_at points k).depths) there)
          (λ same. let least = best.smallest k (sum (point_at points k).depths)
          (subst (λ (l : ℕ). IsDoneAt points k l (sum (point_at points k).depths)) same there) in
          omega (arith, least, best.done.depths))
    ]

    own_beats : (k : ℕ) → k < i → (l : ℕ) → (point_at points k).verdict ≡ Done l → beats own (point_at points k) ≡ true
    own_beats k before l e =
        let there = done_there k l (omega (arith, best.done.within)) e in
        beats_it own (point_at points k) best.latency l best.done.verdict e
        (order (cases_lt best.latency l) (best.fastest k l (sum (point_at points k).depths) there) there)
      where
        order : (best.latency < l) ⊎ (l ≤ best.latency) → best.latency ≤ l → IsDoneAt points k l (sum (point_at points k).depths)
            → (best.latency < l) ⊎ ((best.latency ≡ l) × (sum own.depths < sum (point_at points k).depths))
        order (inl less) most there = inl less
        order (inr more) most there =
            let same : l ≡ best.latency = omega (arith, more, most) in
            let here = subst (λ (m : ℕ). IsDoneAt points k m (sum (point_at points k).depths)) same there in
            let least = best.smallest k (sum (point_at points k).depths) here in
            elim (cases_lt (sum own.depths) (sum (point_at points k).depths)) [
              | inl less ↦ inr (sym same, less)
              | inr tie ↦
                  let alike : sum (point_at points k).depths ≡ best.total = omega (arith, tie, least, best.done.depths) in
                  let first = best.first k (subst (λ (t : ℕ). IsDoneAt points k best.latency t) alike here) in
                  absurd (omega (arith, first, before))
            ]

    pub best_is : best_of points ≡ Some own
    unfolding best_of
    best_is = find_first (λ p. is_done_at p && not (list_any (λ q. beats q p) points)) points i no_point best.done.within
        (ap₂ (λ (done beaten : Bool). done && not beaten) (ap (λ (v : Verdict). is_done (ending_of v)) best.done.verdict)
        (none_of (λ q. beats q own) points no_point beaten_by_none))
        (λ k before. elim (done_or_not (point_at points k).verdict) [
          | inl e ↦ is_undone k (not (list_any (λ q. beats q (point_at points k)) points)) e
          | inr d ↦ is_beaten k (any_of (λ q. beats q (point_at points k)) points i no_point best.done.within (own_beats k before d.0 d.1))
        ])
