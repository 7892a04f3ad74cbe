-- A block more, and an operation more.
use Rattle.std.proofs.Common.{◌≡◌, refl, ◌∙◌, ℕ, ◌+◌, ◌<◌, ◌≤◌, ◌++◌, [], ◌∷◌, List, length, get_or, sym, ap, subst, arith, inl, inr}
use Rattle.std.proofs.{lemmas.Bool.cases_lt, lemmas.List.get_or_push, lemmas.List.get_or_append_left, lemmas.List.length_push}
use Rattle.std.specs.Prelude.{All}
use Rattle.module_code.specs.{Block, Channel, Guarded, IsGuardedOf}
use Rattle.flow_design.specs.declared.design.Module.{Module}

-- what holds of each item up to the n-th still does, and of one item more
pub each_more : {X : Type 0} (P : ℕ → X → Type 0) (before now : List X) (i : ℕ) (x : X) → length before ≡ i → now ≡ before ++ x ∷ [] → P i x
    → ((n : ℕ) (d : X) → n < i → P n (get_or before n d)) → (n : ℕ) (d : X) → n < i + 1 → P n (get_or now n d)
each_more {X} P before now i x count added is each n d l = elim (cases_lt n i) [
  | inl less ↦
      let same : get_or now n d ≡ get_or before n d = ap (λ (xs : List X). get_or xs n d) added
      ∙ get_or_append_left before (x ∷ []) d n (omega arith) in
      subst (λ (y : X). P n y) (sym same) (each n d less)
  | inr last ↦
      let here : i ≡ n = omega arith in
      let same : get_or now i d ≡ x = ap (λ (xs : List X). get_or xs i d) added ∙ get_or_push before x d i count in
      subst (λ (k : ℕ). P k (get_or now k d)) here (subst (λ (y : X). P i y) (sym same) is)
]

-- what holds of all items still does after one more of which it holds
pub all_more : {X : Type 0} (P : X → Type 0) (xs : List X) (x : X) → All P xs → P x → All P (xs ++ x ∷ [])
all_more {X} P xs x all is k d l =
    each_more (λ (n : ℕ) (y : X). P y) xs (xs ++ x ∷ []) (length xs) x refl refl is all k d (omega (arith, length_push xs x))

-- with more room
pub wider : {channels : List Channel} {m : Module} {b : Block} {room more : ℕ} → room ≤ more → (gs : List Guarded)
    → All (IsGuardedOf channels m b room) gs → All (IsGuardedOf channels m b more) gs
wider most gs all k d l =
    let g = all k d l in
    record { guard = g.guard; action = g.action; few = omega (arith, g.few) }
