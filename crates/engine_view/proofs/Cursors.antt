-- Of the modules that a cursor passed.
use Rattle.std.proofs.Common.{◌≡◌, ℕ, ◌⊎◌, inl, inr}
use Rattle.engine_view.specs.{CursorView, IsPassed, AreIdle}

-- where the property holds of the one that it passes, it goes on to hold of each that counts as idle
pub idle_more : (P : ℕ → Type 0) (c d : CursorView) → ((m : ℕ) → IsPassed d m → (m ≡ c.at) ⊎ IsPassed c m) → P c.at → AreIdle P c
    → AreIdle P d
idle_more P c d passed here idle m p = elim (passed m p) [
  | inl e ↦ rw e here
  | inr q ↦ idle m q
]
