-- Who wins all rounds is the first of the least.
use Rattle.std.proofs.Common.{◌≡◌, refl, sym, ap, subst, ◌∙◌, ℕ, zero, suc, ◌+◌, ◌*◌, ◌/◌, ◌-◌, ◌<◌, ◌≤◌, ◌⊎◌, inl, inr, List, Option, None}
use Rattle.std.proofs.Common.{Some, length, get_or, arith}
use Rattle.std.proofs.{lemmas.Bool.cases_eq, lemmas.Bool.cases_lt, lemmas.List.get_or_past, lemmas.List.get_or_default}
use Rattle.std.proofs.lemmas.Option.{get_or_from_slice_get, slice_get-get_or}
use Rattle.query_resolve.specs.{Candidate, determined_cycle, IsEarliest, First, first_by, ComesFirst, IsBeaten, at_place, HasWinners}
use Rattle.event_graph.specs.declared.candidate.Candidate.TheVariants.{At, Waits, Beyond, Nothing}

trans : (a b c : First) → ComesFirst a b → ComesFirst b c → ComesFirst a c
trans a b c (inl u) (inl v) = inl (omega arith)
trans a b c (inl u) (inr (e, v)) = inl (omega arith)
trans a b c (inr (d, u)) (inl v) = inl (omega arith)
trans a b c (inr (d, u)) (inr (e, v)) = inr (omega arith, omega arith)

-- ---- the winner of all

module _ (candidates : List Candidate) (places : List (Option First)) (h : HasWinners candidates places) where
  -- who stands at a place is beaten at place 1
  beaten : (most j : ℕ) → j ≤ most → 1 ≤ j → j < 2 * length candidates → (b : First) → at_place places j ≡ Some b
      → (a : First) × ((at_place places 1 ≡ Some a) × ComesFirst a b)
  beaten zero j l low high b e = absurd (omega (arith, l, low))
  beaten (suc most) j l low high b e =
      elim (cases_eq j 1) [
        | inl first ↦ (b, (ap (at_place places) (sym first) ∙ e, inr (refl, omega arith)))
        | inr later ↦
            let (c, (there, less)) = above (omega (arith, low, later)) in
            let (a, (top, more)) = beaten most (j / 2) (omega (arith, l, low, later)) (omega (arith, low, later)) (omega (arith, high)) c
            there in
            (a, (top, trans a c b more less))
      ]
    where
      one_of : (j ≡ 2 * (j / 2)) ⊎ (j ≡ 2 * (j / 2) + 1)
      one_of = elim (cases_eq j (2 * (j / 2))) [
        | inl d ↦ inl d
        | inr d ↦ inr (omega arith)
      ]

      above : 2 ≤ j → (c : First) × ((at_place places (j / 2) ≡ Some c) × ComesFirst c b)
      above two =
          let won = h.won (j / 2) (omega (arith, two)) (omega (arith, high)) (omega (arith, two)) in
          elim one_of [
            | inl d ↦
                subst (λ (o : Option First). IsBeaten o (at_place places (j / 2))) (ap (at_place places) (sym d) ∙ e) won.beats_one
            | inr d ↦
                subst (λ (o : Option First). IsBeaten o (at_place places (j / 2))) (ap (at_place places) (sym d) ∙ e) won.beats_other
          ]

  has_told : (n : ℕ) (b : First) (c : Candidate) → first_by n c ≡ Some b → (c ≡ At b.cycle) × (b.owner ≡ n)
  has_told n b (At cycle) e =
      let same : record { cycle = cycle; owner = n } ≡ b = cc in
      (ap At (ap (λ (f : First). f.cycle) same), sym (ap (λ (f : First). f.owner) same))
  has_told n b (Waits i) e = cc
  has_told n b Beyond e = cc
  has_told n b Nothing e = cc

  -- who stands at a place is a module with its cycle
  real : (most j : ℕ) → 2 * length candidates ≤ j + most → 1 ≤ j → j < 2 * length candidates → (b : First) → at_place places j ≡ Some b
      → (b.owner < length candidates) × (get_or candidates b.owner Nothing ≡ At b.cycle)
  real zero j l low high b e = absurd (omega (arith, l, high))
  real (suc most) j l low high b e =
      elim (cases_lt j (length candidates)) [
        | inl inner ↦
            elim (h.won j low inner (omega (arith, low))).is [
              | inl same ↦ real most (2 * j) (omega (arith, l, low)) (omega (arith, low)) (omega (arith, inner)) b (sym same ∙ e)
              | inr same ↦ real most (2 * j + 1) (omega (arith, l, low)) (omega (arith, low)) (omega (arith, inner)) b (sym same ∙ e)
            ]
        | inr outer ↦
            let n = j - length candidates in
            let sum : length candidates + (j - length candidates) ≡ j = omega (arith, outer) in
            let (here, own) = has_told n b (get_or candidates n Nothing)
            (sym (h.begins n (omega (arith, outer, high))) ∙ ap (at_place places) sum ∙ e) in (
              omega (arith, own, outer, high),
              ap (λ (k : ℕ). get_or candidates k Nothing) own ∙ here,
            )
      ]

  at_inside : (n cycle : ℕ) → get_or candidates n Nothing ≡ At cycle → n < length candidates
  at_inside n cycle at =
      elim (cases_lt n (length candidates)) [
        | inl l ↦ l
        | inr l ↦ let past = get_or_past candidates n Nothing l in absurd (no_at (sym past ∙ at))
      ]
    where
      no_at : Nothing ≡ At cycle → ⊥
      no_at e = cc

  -- a module with a cycle is beaten by the winner
  beats : (n cycle : ℕ) → get_or candidates n Nothing ≡ At cycle
      → (a : First) × ((at_place places 1 ≡ Some a) × ComesFirst a (record { cycle = cycle; owner = n }))
  beats n cycle at =
      let l = at_inside n cycle at in
      beaten (length candidates + n) (length candidates + n) (omega arith) (omega (arith, l)) (omega (arith, l))
      (record { cycle = cycle; owner = n }) (h.begins n l ∙ ap (first_by n) at)

  pub none_at_all : at_place places 1 ≡ None → (k : ℕ) (d : Candidate) → k < length candidates
      → determined_cycle (get_or candidates k d) ≡ None
  none_at_all none k d l =
      ap determined_cycle (get_or_default candidates k d Nothing l)
      ∙ by (get_or candidates k Nothing) (λ other at. let (a, (top, less)) = beats k other at in no_one a (sym none ∙ top))
    where
      no_one : (a : First) → None ≡ Some a → ⊥
      no_one a e = cc

      by : (c : Candidate) → ((other : ℕ) → c ≡ At other → ⊥) → determined_cycle c ≡ None
      by (At other) f = absurd (f other refl)
      by (Waits i) f = refl
      by Beyond f = refl
      by Nothing f = refl

  -- where there is a winner, some module has a cycle
  pub some_one : (b : First) → 1 < length places → at_place places 1 ≡ Some b
      → ((k : ℕ) (d : Candidate) → k < length candidates → determined_cycle (get_or candidates k d) ≡ None) → ⊥
  some_one b some top none =
      let all = h.count in
      let (inside, here) = real (2 * length candidates) 1 (omega arith) (omega arith) (omega (arith, some, all)) b top in
      no_cycle (sym (none b.owner Nothing inside) ∙ ap determined_cycle here)
    where
      no_cycle : None ≡ Some b.cycle → ⊥
      no_cycle e = cc

  pub earliest : (b : First) → 1 < length places → at_place places 1 ≡ Some b → IsEarliest candidates b.owner b.cycle
  earliest b some top =
      let all = h.count in
      let (inside, here) = real (2 * length candidates) 1 (omega arith) (omega arith) (omega (arith, some, all)) b top in
      record {
        here = slice_get-get_or candidates b.owner Nothing inside ∙ ap Some here;
        least = λ n other at.
            let (a, (same, less)) = beats n other (get_or_from_slice_get candidates n (At other) Nothing at) in
            later_cycle n other a (is_one a (sym top ∙ same)) less;
        first = λ n at.
            let (a, (same, less)) = beats n b.cycle (get_or_from_slice_get candidates n (At b.cycle) Nothing at) in
            lower_owner n a (is_one a (sym top ∙ same)) less;
      }
    where
      is_one : (a : First) → Some b ≡ Some a → b ≡ a
      is_one a e = cc

      later_cycle : (n other : ℕ) (a : First) → b ≡ a → ComesFirst a (record { cycle = other; owner = n }) → b.cycle ≤ other
      later_cycle n other a e (inl less) = let c = ap (λ (f : First). f.cycle) e in omega arith
      later_cycle n other a e (inr (same, lower)) = let c = ap (λ (f : First). f.cycle) e in omega arith

      lower_owner : (n : ℕ) (a : First) → b ≡ a → ComesFirst a (record { cycle = b.cycle; owner = n }) → b.owner ≤ n
      lower_owner n a e (inl less) = let c = ap (λ (f : First). f.cycle) e in absurd (omega arith)
      lower_owner n a e (inr (same, lower)) = let c = ap (λ (f : First). f.owner) e in omega arith
