-- Halving: how to find the least number that fits, where each greater one fits too.
use Rattle.std.specs.Prelude.{ℕ, zero, suc, ◌+◌, ◌/◌, Bool, nat_lt, if◌then◌else◌}

-- the number that is found, and how many numbers were tried for it
pub record Found : Type 0 where
  pub number : ℕ
  pub tries : ℕ

abbrev pub untried : ℕ → Found
untried n = record { number = n; tries = 0 }

abbrev pub tried_one_more : Found → Found
tried_one_more found = record { number = found.number; tries = suc found.tries }

-- halfway between two numbers, rounded down
abbrev pub middle : ℕ → ℕ → ℕ
middle lo hi = (lo + hi) / 2

-- what halving finds from lo to hi with at most n tries: where the middle fits, it goes on from lo to the middle, otherwise from
-- the number after the middle to hi
unfoldable pub halved : (ℕ → Bool) → ℕ → ℕ → ℕ → Found
halved fits zero lo hi = untried lo
halved fits (suc n) lo hi =
    if nat_lt lo hi
    then tried_one_more (if fits (middle lo hi) then halved fits n lo (middle lo hi) else halved fits n (suc (middle lo hi)) hi)
    else untried lo

-- how many binary digits a number has, but at most k
abbrev pub digits : ℕ → ℕ → ℕ
digits zero n = 0
digits (suc k) zero = 0
digits (suc k) (suc n) = suc (digits k (suc n / 2))

-- how many binary digits a number has
unfoldable pub bits : ℕ → ℕ
bits n = digits n n
