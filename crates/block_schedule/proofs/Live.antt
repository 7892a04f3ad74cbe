-- How many iterations are live, by one division.
use Rattle.std.proofs.Common.{◌≡◌, refl, arith, ℕ, ◌+◌, ◌-◌, ◌*◌, ◌/◌, ◌<◌, ◌≤◌, true, min, nat_lt, inl, inr}
use Rattle.std.proofs.{lemmas.Bool.cases_lt, lemmas.Bool.Decides.nat_tests, lemmas.Nat.le-div}
use Rattle.std.proofs.Math.Nat.{div-mul-le_self, div-eq_of_lt}
use Rattle.block_schedule.specs.{Block, Control, interval, live_count}

-- where the newest iteration is live, the count of live iterations
pub live_count_is : (b : Block) (k : Control) → k.clock - k.newest < b.len
    → live_count b k ≡ 1 + min (k.newest / interval b) ((b.len - 1 - (k.clock - k.newest)) / interval b)
live_count_is b k live =
    let test : nat_lt (k.clock - k.newest) b.len ≡ true = grind (arith, nat_tests) in
    rw test refl

div_rises : (m n step : ℕ) → 1 ≤ step → m ≤ n → m / step ≤ n / step
div_rises m n step some le =
    let product : m / step * step ≤ m = div-mul-le_self m step in
    le-div (m / step) n step (omega arith) (omega arith)

-- the lesser quotient is that of the lesser number
min_div : (m n step : ℕ) → 1 ≤ step → min (m / step) (n / step) ≡ min m n / step
min_div m n step some = elim (cases_lt m n) [
  | inl less ↦
      let rises = div_rises m n step some (omega arith) in
      let lesser : min m n ≡ m = omega arith in
      rw lesser (omega arith)
  | inr most ↦
      let rises = div_rises n m step some most in
      let lesser : min m n ≡ n = omega arith in
      rw lesser (omega arith)
]

-- the live iterations, by the local clocks that are left to their starts and to the end of the newest
pub live_by_most : (b : Block) (k : Control) (most : ℕ) → 1 ≤ interval b → k.clock - k.newest < b.len
    → most ≡ min k.newest (b.len - 1 - (k.clock - k.newest)) → 1 + most / interval b ≡ live_count b k
live_by_most b k most some live is =
    let quotient : most / interval b ≡ min (k.newest / interval b) ((b.len - 1 - (k.clock - k.newest)) / interval b) =
    rw (is, min_div k.newest (b.len - 1 - (k.clock - k.newest)) (interval b) some) refl in
    omega (arith, live_count_is b k live, quotient)

-- where fewer than II are left, only the newest is live
pub newest_alone : (b : Block) (k : Control) (most : ℕ) → 1 ≤ interval b → k.clock - k.newest < b.len
    → most ≡ min k.newest (b.len - 1 - (k.clock - k.newest)) → most < interval b → 1 ≡ live_count b k
newest_alone b k most some live is less =
    let none : most / interval b ≡ 0 = div-eq_of_lt less in
    let all = live_by_most b k most some live is in
    omega arith
