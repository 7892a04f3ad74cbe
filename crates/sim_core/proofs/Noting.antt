-- The first module that pops each channel, once all modules are noted.
use Rattle.std.proofs.Common.{◌≡◌, refl, sym, ap, ◌∙◌, ℕ, zero, suc, ◌+◌, ◌<◌, ◌≤◌, Bool, cond, List, [], ◌∷◌, length, drop, slice_index}
use Rattle.std.proofs.Common.{inl, inr, arith}
use Rattle.std.proofs.lemmas.Bool.Decides.{eqb_tells}
use Rattle.std.specs.{Prelude.nat_eq, List.position_or_len}
use Rattle.sim_core.specs.{Side, uses, port_at, IsSearching}
use Rattle.flow_design.specs.declared.design.Module.{Module}

pub searching_all : (side : Side) (modules : List Module) (none : ℕ) (now : List ℕ) → none ≡ length modules
    → IsSearching side modules none now none
    → (c : ℕ) → c < length now → slice_index now c ≡ position_or_len (uses (port_at side c)) modules
searching_all side modules none now count k c l =
    go (slice_index now c) ∙ (ap (λ (q : ℕ). cond (nat_eq (slice_index now c) none) (none + q) (slice_index now c))
    (sym (past (uses (port_at side c)) modules none (omega arith))) ∙ k.each c l)
  where
    past : {X : Type 0} → (f : X → Bool) (xs : List X) (i : ℕ) → length xs ≤ i → position_or_len f (drop i xs) ≡ 0
    past f [] zero l = refl
    past f [] (suc i) l = refl
    past f (x ∷ xs) zero l = absurd (omega arith)
    past f (x ∷ xs) (suc i) l = past f xs i (omega arith)

    go : (r : ℕ) → r ≡ cond (nat_eq r none) (none + 0) r
    go r = elim (eqb_tells r none) [ inl t ↦ rw t.0 (let e = t.1 in omega arith) | inr t ↦ rw t.0 refl ]
