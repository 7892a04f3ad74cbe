-- The place of a channel in a list in order.
use Rattle.std.proofs.Common.{◌≡◌, ◌∙◌, inl, inr, sym, ap, arith, ℕ, ◌<◌, ◌≤◌, List, length, get_or, set, eqb}
use Rattle.std.proofs.lemmas.Bool.{eq-eqb, ne_eqb, eqb-true, cases_eq, cases_lt}
use Rattle.std.proofs.lemmas.List.{get_or_default, get_or-set_same, get_or-set_other}
use Rattle.std.proofs.{lemmas.List.Kept.AllPairs-from_increasing, lemmas.List.Sums.position_or_len_is, lemmas.List.Sums.passes_at_first}
use Rattle.std.specs.{List.position_or_len, List.Sorted.IsStrictlyIncreasing, Prelude.Contains}
use Rattle.module_interp.specs.{IsPlaceOf}

-- ---- where it stands

pub position_at : (xs : List ℕ) → IsStrictlyIncreasing xs → (k f : ℕ) → k < length xs → get_or xs k 0 ≡ f → position_or_len (eqb f) xs ≡ k
position_at xs rise k f l is =
    position_or_len_is (eqb f) xs k 0 (omega arith)
    (λ j m. let less = AllPairs-from_increasing xs rise j k 0 m l in ne_eqb f (get_or xs j 0) (λ e. absurd (omega arith)))
    (λ m. eq-eqb f (get_or xs k 0) (sym is))

pub position_none : (xs : List ℕ) (f : ℕ) → ((k : ℕ) → k < length xs → get_or xs k 0 ≡ f → ⊥) → position_or_len (eqb f) xs ≡ length xs
position_none xs f none =
    position_or_len_is (eqb f) xs (length xs) 0 (omega arith)
    (λ j m. ne_eqb f (get_or xs j 0) (λ e. none j m (sym e))) (λ m. absurd (omega arith))

pub found_at : (xs : List ℕ) (f : ℕ) → position_or_len (eqb f) xs < length xs → get_or xs (position_or_len (eqb f) xs) 0 ≡ f
found_at xs f l = sym (eqb-true f _ (passes_at_first (eqb f) xs 0 l))

pub position_inside : (xs : List ℕ) → IsStrictlyIncreasing xs → (f : ℕ) → Contains xs f → position_or_len (eqb f) xs < length xs
position_inside xs rise f (k, l, is) =
    let at = position_at xs rise k f l (get_or_default xs k 0 f l ∙ is) in omega arith

-- the place that was found, where the channel stands there
pub place_found : (xs : List ℕ) → IsStrictlyIncreasing xs → (f place : ℕ) → place < length xs → get_or xs place 0 ≡ f
    → place ≡ position_or_len (eqb f) xs
place_found xs rise f place l is = sym (position_at xs rise place f l is)

-- or where it does not
pub place_missed : (xs : List ℕ) (f place : ℕ) → IsPlaceOf xs f place → (place < length xs → get_or xs place 0 ≡ f → ⊥)
    → length xs ≡ position_or_len (eqb f) xs
place_missed xs f place is missed =
    sym (position_none xs f (λ k l found. let e = is k l found in missed (omega arith) (ap (λ (j : ℕ). get_or xs j 0) e ∙ found)))

-- ---- half of what is left

pub halved : (xs : List ℕ) → IsStrictlyIncreasing xs → (f middle k : ℕ) → middle < length xs → get_or xs middle 0 ≤ f → k < length xs
    → get_or xs k 0 ≡ f → middle ≤ k
halved xs rise f middle k inside low l is = elim (cases_lt k middle) [
  | inl less ↦ let rises = AllPairs-from_increasing xs rise k middle 0 less inside in absurd (omega arith)
  | inr more ↦ more
]

pub halved_after : (xs : List ℕ) → IsStrictlyIncreasing xs → (f middle k : ℕ) → middle < length xs → f < get_or xs middle 0 → k < length xs
    → get_or xs k 0 ≡ f → k < middle
halved_after xs rise f middle k inside high l is = elim (cases_lt k middle) [
  | inl less ↦ less
  | inr more ↦ elim (cases_eq k middle) [
    | inl same ↦ let e = ap (λ (j : ℕ). get_or xs j 0) same in absurd (omega arith)
    | inr other ↦ let rises = AllPairs-from_increasing xs rise middle k 0 (omega arith) l in absurd (omega arith)
  ]
]

-- ---- what stands at the places

-- two channels have two places
pub places_apart : (xs : List ℕ) (c f : ℕ) → position_or_len (eqb c) xs < length xs → (c ≡ f → ⊥)
    → position_or_len (eqb f) xs ≡ position_or_len (eqb c) xs → ⊥
places_apart xs c f there other e =
    other (sym (found_at xs c there) ∙ (ap (λ (k : ℕ). get_or xs k 0) (sym e) ∙ found_at xs f (omega arith)))

-- one item that is set leaves those of the other channels
pub place_set : {X : Type 0} → (xs : List ℕ) (items : List X) → length items ≡ length xs → (c f : ℕ) (v d : X)
    → position_or_len (eqb c) xs < length xs
    → (c ≡ f → get_or (set items (position_or_len (eqb c) xs) v) (position_or_len (eqb f) xs) d ≡ v)
    × ((c ≡ f → ⊥)
    → get_or (set items (position_or_len (eqb c) xs) v) (position_or_len (eqb f) xs) d ≡ get_or items (position_or_len (eqb f) xs) d)
place_set {X} xs items one_each c f v d there = (
  λ same. ap (λ (g : ℕ). get_or (set items (position_or_len (eqb c) xs) v) (position_or_len (eqb g) xs) d) (sym same)
      ∙ get_or-set_same items (position_or_len (eqb c) xs) v d (omega arith),
  λ other. get_or-set_other items (position_or_len (eqb c) xs) (position_or_len (eqb f) xs) v d (places_apart xs c f there other),
)
