-- Which steps of a lane have a cycle before a clock.
use Rattle.std.proofs.lemmas.Bool.Decides.{nat_tests}
use Rattle.std.proofs.Common.{◌≡◌, ℕ, zero, suc, ◌<◌, ◌≤◌, ◌⊎◌, refl, ap, arith}
use Rattle.cycle_changes.specs.{from, kept, kept_cycle}
use Rattle.event_timing.proofs.Editing.{kept_le, kept_below, kept_same}

-- the cycles of the first so many rise
abbrev pub Rise : (ℕ → ℕ) → ℕ → Type 0
Rise cycle n = (j k : ℕ) → j < k → k < n → cycle j < cycle k

-- a step after those that stay has its cycle at the clock or later
pub kept_beyond : (cycle : ℕ → ℕ) (t n k : ℕ) → kept cycle t n ≤ k → k < n → t ≤ cycle k
unfolding kept
kept_beyond cycle t zero k l q = absurd (omega arith)
kept_beyond cycle t (suc n) k l q = grind (arith, nat_tests, kept_beyond cycle t n k)

-- where all are before the clock, all stay
pub kept_all : (cycle : ℕ → ℕ) (t n : ℕ) → ((k : ℕ) → k < n → cycle k < t) → kept cycle t n ≡ n
unfolding kept
kept_all cycle t zero f = refl
kept_all cycle t (suc n) f = grind (arith, nat_tests, f n)

-- before clock 0 there is none
pub kept_none : (cycle : ℕ → ℕ) (n : ℕ) → kept cycle 0 n ≡ 0
unfolding kept
kept_none cycle zero = refl
kept_none cycle (suc n) = grind (arith, nat_tests, kept_none cycle n)

-- one clock later at most the next step is among them, and it has that clock
pub kept_more : (cycle : ℕ → ℕ) (t n : ℕ) → Rise cycle n → (k : ℕ) → k < kept cycle (suc t) n
    → (k < kept cycle t n) ⊎ ((k ≡ kept cycle t n) × (cycle k ≡ t))
kept_more cycle t n f k l =
    let far = kept_beyond cycle t n in
    grind (arith, kept_le cycle (suc t) n, kept_below cycle (suc t) n f k l, far k, far (kept cycle t n), f (kept cycle t n) k)

pub from_kept : (cycle : ℕ → ℕ) (t n k : ℕ) → k ≤ kept cycle t n → from (kept_cycle cycle t n) k ≡ from cycle k
from_kept cycle t n zero l = refl
from_kept cycle t n (suc k) l = ap (λ (z : ℕ). suc z) (kept_same cycle t n k (omega arith))

-- what stays at a clock stays at a later one, and has its cycle before
pub kept_fewer : (cycle : ℕ → ℕ) (c t n : ℕ) → c ≤ t → Rise cycle n → (k : ℕ) → k < kept cycle c n → (k < kept cycle t n) × (cycle k < c)
kept_fewer cycle c t n l f k q = grind (arith, kept_below cycle c n f k q, kept_le cycle c n, kept_beyond cycle t n k)
