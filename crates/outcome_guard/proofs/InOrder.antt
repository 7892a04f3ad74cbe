-- Edits one after the other.
use Rattle.std.proofs.Common.{◌≡◌, refl, ◌∙◌, ap, ap₂, arith, ℕ, ◌+◌, ◌<◌, ◌==◌, zero, suc, Bool, true, false, cond, List, [], ◌∷◌, ◌++◌}
use Rattle.std.proofs.Common.{length, map}
use Rattle.std.proofs.lemmas.Bool.{cond-true, cond-false, ne_eqb, eq-eqb}
use Rattle.std.proofs.lemmas.List.Elements.{filter-append}
use Rattle.std.specs.{Prelude.slice_set, Prelude.filter, Prelude.if◌then◌else◌, List.enumerate_from}
use Rattle.outcome_guard.specs.{Edit, Plan, with_depth, last_edit, depth_after, plan_after}

-- ---- the last edit of a channel

last_is : (other : Edit) (edits : List Edit) (e : Edit) → last_edit other (edits ++ e ∷ []) ≡ e
last_is other [] e = refl
last_is other (x ∷ edits) e = last_is x edits e

last_stays : (other : Edit) (edits : List Edit) → last_edit other (edits ++ []) ≡ last_edit other edits
last_stays other [] = refl
last_stays other (x ∷ edits) = last_stays x edits

depth_more : (edits : List Edit) (e : Edit) (f stood : ℕ)
    → depth_after (edits ++ e ∷ []) f stood ≡ (if e.channel == f then e.depth else depth_after edits f stood)
depth_more edits e f stood =
    ap (λ (l : List Edit). (last_edit own l).depth) (filter-append (λ (x : Edit). x.channel == f) edits (e ∷ [])) ∙ by_test (e.channel == f)
  where
    own : Edit
    own = record { channel = f; depth = stood }

    of_channel : List Edit
    of_channel = filter (λ (x : Edit). x.channel == f) edits

    by_test : (b : Bool) → (last_edit own (of_channel ++ cond b (e ∷ []) [])).depth ≡ cond b e.depth (last_edit own of_channel).depth
    by_test true = ap (λ (x : Edit). x.depth) (last_is own of_channel e)
    by_test false = ap (λ (x : Edit). x.depth) (last_stays own of_channel)

-- ---- a list in which one place has another value

module _ (g h : ℕ → ℕ → ℕ) (c v : ℕ) (differ : (f d : ℕ) → g f d ≡ (if c == f then v else h f d)) where
  there : (f d : ℕ) → c ≡ f → g f d ≡ v
  there f d e = differ f d ∙ cond-true (c == f) v (h f d) (eq-eqb c f e)

  elsewhere : (f d : ℕ) → (c ≡ f → ⊥) → g f d ≡ h f d
  elsewhere f d n = differ f d ∙ cond-false (c == f) v (h f d) (ne_eqb c f n)

  -- after that place nothing differs
  same_after : (n : ℕ) (ds : List ℕ) → c < n
      → map (λ entry. g entry.0 entry.1) (enumerate_from n ds) ≡ map (λ entry. h entry.0 entry.1) (enumerate_from n ds)
  same_after n [] l = refl
  same_after n (d ∷ ds) l = ap₂ (λ (x : ℕ) (xs : List ℕ). x ∷ xs) (elsewhere n d (λ e. omega arith)) (same_after (n + 1) ds (omega arith))

  one_differs : (n k : ℕ) (ds : List ℕ) → c ≡ n + k → k < length ds
      → map (λ entry. g entry.0 entry.1) (enumerate_from n ds) ≡ slice_set (map (λ entry. h entry.0 entry.1) (enumerate_from n ds)) k v
  one_differs n k [] e l = absurd (omega arith)
  one_differs n zero (d ∷ ds) e l = ap₂ (λ (x : ℕ) (xs : List ℕ). x ∷ xs) (there n d (omega arith)) (same_after (n + 1) ds (omega arith))
  one_differs n (suc k) (d ∷ ds) e l =
      ap₂ (λ (x : ℕ) (xs : List ℕ). x ∷ xs) (elsewhere n d (λ s. omega arith)) (one_differs (n + 1) k ds (omega arith) (omega arith))

as_it_stood : (n : ℕ) (ds : List ℕ) → map (λ entry. depth_after [] entry.0 entry.1) (enumerate_from n ds) ≡ ds
as_it_stood n [] = refl
as_it_stood n (d ∷ ds) = ap (λ (xs : List ℕ). d ∷ xs) (as_it_stood (n + 1) ds)

-- ---- plans

pub no_edit : (p : Plan) → plan_after p [] ≡ p
unfolding plan_after
no_edit p = ap (λ (ds : List ℕ). record p { depths = ds }) (as_it_stood 0 p.depths)

pub one_edit_more : (p : Plan) (edits : List Edit) (e : Edit) → e.channel < length p.depths
    → plan_after p (edits ++ e ∷ []) ≡ with_depth (plan_after p edits) e.channel e.depth
unfolding plan_after
one_edit_more p edits e l =
    ap (λ (ds : List ℕ). record p { depths = ds })
    (one_differs (depth_after (edits ++ e ∷ [])) (depth_after edits) e.channel e.depth (depth_more edits e) 0 e.channel p.depths
    (omega arith) l)
