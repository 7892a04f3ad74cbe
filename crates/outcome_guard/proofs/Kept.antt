-- Lists of outcomes beside one another.
use Rattle.std.proofs.Common.{◌≡◌, refl, sym, ◌∙◌, ap, subst, arith, ℕ, ◌≤◌, ◌⊎◌, inl, inr, min, Bool, true, false, ◌||◌, List, [], ◌∷◌}
use Rattle.std.proofs.Common.{◌++◌, length, take, drop, IsTrue, ◌↔◌, take-append-drop, drop_of_length-le}
use Rattle.std.proofs.lemmas.Bool.{cases_lt}
use Rattle.outcome_guard.specs.{IsPrefix, is_prefix_of, agree_so_far, all_go_on, all_longer}

-- ---- one list beside another

begins_prefix : (a b : List Bool) → is_prefix_of a b ≡ true → IsPrefix a b
begins_prefix [] b e = (b, refl)
begins_prefix (x ∷ a) [] e = absurd cc
begins_prefix (true ∷ a) (true ∷ b) e = let (more, is) = begins_prefix a b e in (more, ap (λ l. true ∷ l) is)
begins_prefix (true ∷ a) (false ∷ b) e = absurd cc
begins_prefix (false ∷ a) (true ∷ b) e = absurd cc
begins_prefix (false ∷ a) (false ∷ b) e = let (more, is) = begins_prefix a b e in (more, ap (λ l. false ∷ l) is)

begins_more : (a more : List Bool) → is_prefix_of a (a ++ more) ≡ true
begins_more [] more = refl
begins_more (true ∷ a) more = begins_more a more
begins_more (false ∷ a) more = begins_more a more

prefix_begins : (a b : List Bool) → IsPrefix a b → is_prefix_of a b ≡ true
prefix_begins a b (more, is) = subst (λ l. is_prefix_of a l ≡ true) (sym is) (begins_more a more)

either : (p q : Bool) → p || q ≡ true → (p ≡ true) ⊎ (q ≡ true)
either true q e = inl refl
either false q e = inr e

alike : (a b : List Bool) → agree_so_far a b ≡ true → IsPrefix a b ⊎ IsPrefix b a
alike a b e =
    elim (either (is_prefix_of a b) (is_prefix_of b a) e) [ inl p ↦ inl (begins_prefix a b p) | inr q ↦ inr (begins_prefix b a q) ]

second_true : (p : Bool) → p || true ≡ true
second_true true = refl
second_true false = refl

pub goes_alike : (a b : List Bool) → IsPrefix a b ⊎ IsPrefix b a → agree_so_far a b ≡ true
goes_alike a b (inl p) = ap (λ t. t || is_prefix_of b a) (prefix_begins a b p)
goes_alike a b (inr q) = ap (λ t. is_prefix_of a b || t) (prefix_begins b a q) ∙ second_true (is_prefix_of a b)

-- what is true exactly where one of the lists is a prefix of the other
pub tells_alike : (r : Bool) (a b : List Bool) → (IsTrue r ↔ (IsPrefix a b ⊎ IsPrefix b a)) → r ≡ agree_so_far a b
tells_alike true a b h = sym (goes_alike a b (h.0 refl))
tells_alike false a b h = by_test (agree_so_far a b) refl
  where
    by_test : (t : Bool) → agree_so_far a b ≡ t → false ≡ agree_so_far a b
    by_test true e = h.1 (alike a b e) ∙ sym e
    by_test false e = sym e

-- ---- the lists of all modules, after the last that both have

module _ (kept found : List (List Bool)) (i : ℕ) (past : min (length kept) (length found) ≤ i) where
  none_left : (drop i kept ≡ []) ⊎ (drop i found ≡ [])
  none_left =
      elim (cases_lt (length found) (length kept)) [
        | inl l ↦ inr (drop_of_length-le found {i = i} (omega arith))
        | inr l ↦ inl (drop_of_length-le kept {i = i} (omega arith))
      ]

  pub go_on_after : all_go_on (drop i kept) (drop i found) ≡ true
  go_on_after = elim none_left [
    | inl e ↦ ap (λ ks. all_go_on ks (drop i found)) e
    | inr e ↦ ap (λ fs. all_go_on (drop i kept) fs) e
        ∙ none_found (drop i kept)
  ]
    where
      none_found : (ks : List (List Bool)) → all_go_on ks [] ≡ true
      none_found [] = refl
      none_found (k ∷ ks) = refl

  pub longer_after : take i kept ++ all_longer (drop i kept) (drop i found) ≡ kept
  longer_after = ap (λ ks. take i kept ++ ks) (elim none_left [
    | inl e ↦ ap (λ ks. all_longer ks (drop i found)) e
        ∙ sym e
    | inr e ↦ ap (λ fs. all_longer (drop i kept) fs) e ∙ all_kept (drop i kept)
  ])
      ∙ take-append-drop i kept
    where
      all_kept : (ks : List (List Bool)) → all_longer ks [] ≡ ks
      all_kept [] = refl
      all_kept (k ∷ ks) = refl
