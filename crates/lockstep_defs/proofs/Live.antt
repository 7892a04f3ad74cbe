-- The live iterations are those of the rule.
use Rattle.std.proofs.Common.{◌≡◌, ℕ, zero, suc, ◌+◌, length, get_or, ◌*◌, ◌/◌, ◌-◌, ◌≤◌, ◌<◌, min, ◌↔◌, Bool, true, false, cond, refl}
use Rattle.std.proofs.Common.{arith, nat_lt, ap}
use Rattle.std.proofs.{lemmas.Bool.ltb-true, lemmas.Bool.ltb-false, Math.Nat.le-div_iff_mul-le}
use Rattle.lockstep_defs.specs.{Block, Control, interval, live_count, ages_down, ages, IsLive, AreAges}

by_test : (ii age len newest j : ℕ) (t : Bool) → nat_lt age len ≡ t → 0 < ii
    → (j < cond t (1 + min (newest / ii) ((len - 1 - age) / ii)) 0) ↔ ((j * ii ≤ newest) × (age + j * ii < len))
by_test ii age len newest j true e pos =
    let young : age < len = ltb-true age len e in (
      λ h.
          let first : j * ii ≤ newest = (le-div_iff_mul-le pos).0 (omega arith) in
          let second : j * ii ≤ len - 1 - age = (le-div_iff_mul-le pos).0 (omega arith) in
          (first, omega arith),
      λ h.
          let first : j ≤ newest / ii = (le-div_iff_mul-le pos).1 h.0 in
          let second : j ≤ (len - 1 - age) / ii = (le-div_iff_mul-le pos).1 (omega (arith, h.1)) in
          omega arith,
    )
by_test ii age len newest j false e pos =
    let old : len ≤ age = ltb-false age len e in
    (λ h. absurd (omega arith), λ h. absurd (omega (arith, h.1)))

pub live_iff : (b : Block) (k : Control) (j : ℕ) → 0 < interval b → (j < live_count b k) ↔ IsLive b k j
live_iff b k j pos =
    let both = by_test (interval b) (k.clock - k.newest) b.len k.newest j (nat_lt (k.clock - k.newest) b.len) refl pos in (
      λ h. record { has_started = (both.0 h).0; is_young = (both.0 h).1 },
      λ h. both.1 (h.has_started, h.is_young),
    )

pub length-ages_down : (ii age n : ℕ) → length (ages_down ii age n) ≡ n
length-ages_down ii age zero = refl
length-ages_down ii age (suc n) = let rest = length-ages_down ii age n in omega arith

at_ages_down : (ii age n k d : ℕ) → k < n → get_or (ages_down ii age n) k d ≡ age + (n - 1 - k) * ii
at_ages_down ii age zero k d h = absurd (omega arith)
at_ages_down ii age (suc n) zero d h = ap (λ (j : ℕ). age + j * ii) (omega arith)
at_ages_down ii age (suc n) (suc k) d h =
    let rest = at_ages_down ii age n k d (omega arith) in
    let same : suc n - 1 - suc k ≡ n - 1 - k = omega arith in
    rw same rest

pub are_ages : (b : Block) (k : Control) → AreAges b k
unfolding ages
are_ages b k = record {
  count = length-ages_down (interval b) (k.clock - k.newest) (live_count b k);
  each = at_ages_down (interval b) (k.clock - k.newest) (live_count b k);
}
