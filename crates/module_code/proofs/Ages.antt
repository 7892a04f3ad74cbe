-- The ages of live iterations.
use Rattle.std.proofs.Common.{◌≡◌, arith, ℕ, ◌+◌, ◌-◌, ◌*◌, ◌/◌, ◌<◌, ◌≤◌}
use Rattle.std.proofs.Math.Nat.{div-mul-le_self, mul-le-mul_right}
use Rattle.module_code.specs.{Block, Control, interval, live_count}
use Rattle.module_code.proofs.Begins.{live_count_is}

-- ---- bounds

-- the age of the n-th iteration before the newest is below LEN
pub older_age : (b : Block) (k : Control) (n : ℕ) → k.clock - k.newest < b.len → n < live_count b k
    → (k.clock - k.newest) + n * interval b < b.len
older_age b k n live below =
    let count = live_count_is b k live in
    let many : n ≤ (b.len - 1 - (k.clock - k.newest)) / interval b = omega (arith, count) in
    let product : n * interval b ≤ (b.len - 1 - (k.clock - k.newest)) / interval b * interval b = mul-le-mul_right (interval b) many in
    let whole : (b.len - 1 - (k.clock - k.newest)) / interval b * interval b
    ≤ b.len - 1 - (k.clock - k.newest) = div-mul-le_self (b.len - 1 - (k.clock - k.newest)) (interval b) in
    omega arith

-- so is the age of the oldest
pub oldest_age : (b : Block) (k : Control) (live : ℕ) → k.clock - k.newest < b.len → live ≡ live_count b k
    → (k.clock - k.newest) + (live - 1) * interval b < b.len
oldest_age b k live young is = older_age b k (live - 1) young (omega (arith, live_count_is b k young))
