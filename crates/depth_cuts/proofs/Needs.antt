-- Needs that depths meet, or fall short of.
use Rattle.std.proofs.Common.{ℕ, ◌<◌, ◌≤◌, List, [], ◌∷◌, arith, inl, inr, ◌⊎◌, refl, suc}
use Rattle.std.proofs.{lemmas.Bool.cases_lt, lemmas.List.Elements.All-nil, lemmas.List.Elements.All-cons}
use Rattle.std.specs.Prelude.{slice_index, All, Any}
use Rattle.depth_cuts.specs.{Need}

-- ---- lists of needs

any_first : {X : Type 0} (P : X → Type 0) (x : X) (xs : List X) → P x → Any P (x ∷ xs)
any_first P x xs h = (0, x, omega arith, refl, h)

any_later : {X : Type 0} (P : X → Type 0) (x : X) (xs : List X) → Any P xs → Any P (x ∷ xs)
any_later P x xs (k, y, l, e, h) = (suc k, y, omega arith, e, h)

-- some need is met, or each is fallen short of
pub met_or_short : (depths : List ℕ) (needs : List Need) → Any (λ n. n.depth ≤ slice_index depths n.channel) needs
    ⊎ All (λ n. slice_index depths n.channel < n.depth) needs
met_or_short depths [] = inr (All-nil (λ n. slice_index depths n.channel < n.depth))
met_or_short depths (n ∷ needs) = elim (cases_lt (slice_index depths n.channel) n.depth) [
  | inl l ↦ elim (met_or_short depths needs) [
    | inl met ↦ inl (any_later (λ n. n.depth ≤ slice_index depths n.channel) n needs met)
    | inr short ↦ inr (All-cons (λ n. slice_index depths n.channel < n.depth) n needs l short)
  ]
  | inr l ↦ inl (any_first (λ n. n.depth ≤ slice_index depths n.channel) n needs l)
]

-- ---- one channel more
