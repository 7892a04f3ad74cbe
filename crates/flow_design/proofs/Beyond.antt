-- Writes to places that are not there.
use Rattle.std.proofs.Common.{◌≡◌, refl, ap, arith, ℕ, zero, suc, ◌≤◌, List, [], ◌∷◌, length, set}

-- a place that is not there
pub set_beyond : {X : Type 0} (xs : List X) (i : ℕ) (x : X) → length xs ≤ i → set xs i x ≡ xs
set_beyond [] i x h = refl
set_beyond (y ∷ ys) zero x h = absurd (omega arith)
set_beyond (y ∷ ys) (suc i) x h = ap (λ zs. y ∷ zs) (set_beyond ys i x (omega arith))
