-- A measure of what a core has done. It rises at each action that changes the core, and has a bound.
use Rattle.std.specs.Prelude.{ℕ, zero, suc, ◌+◌, cond, ltb}
use Rattle.event_timing.specs.{Machines.Design, Core.Core}

-- 1 where module m's first step without a cycle is verified, else 0
unfoldable pub first_one : {S : Type 0} → Core S → ℕ → ℕ
first_one {S} x m = cond (ltb (x.timed m) (x.emitted m)) (cond (x.verified m (x.timed m)) 1 0) 0

-- 1 where module m's end is emitted, else 0
unfoldable pub over_one : {S : Type 0} → Core S → ℕ → ℕ
over_one {S} x m = cond (x.over m) 1 0

-- what is done of module m: its marks, its steps with a cycle, and its verified steps up to the first one without a cycle
unfoldable pub work_of : {S : Type 0} → Core S → ℕ → ℕ
work_of {S} x m = x.emitted m + over_one x m + (x.timed m + (x.timed m + first_one x m))

-- the sum of f over the numbers below n
unfoldable pub sum_to : (ℕ → ℕ) → ℕ → ℕ
sum_to f zero = 0
sum_to f (suc n) = sum_to f n + f n

abbrev pub work : {S : Type 0} → Design S → Core S → ℕ
work {S} d x = sum_to (work_of x) d.modules
