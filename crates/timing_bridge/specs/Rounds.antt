-- The actions of a turn, found by going over the modules in order.
use Rattle.std.specs.Prelude.{ℕ, zero, suc, ◌-◌, Bool, cond, ◌||◌, Option, None, Some, is_none, unwrap_or}
use Rattle.std.specs.Option.{option_or}
use Rattle.event_timing.specs.{Design, candidate, view, after_run, after_assign, after_answer, may_run, may_assign, may_answer}
use Rattle.event_timing.specs.{may_earliest, Core.Core}

-- the first of `many` numbers, from a on, that passes the test
abbrev pub first_from : (ℕ → Bool) → ℕ → ℕ → Option ℕ
first_from test a zero = None
first_from test a (suc many) = cond (test a) (Some a) (first_from test (suc a) many)

-- the first number below the count that passes the test, from `at` on, and then from 0 on
abbrev pub first_round : (ℕ → Bool) → ℕ → ℕ → Option ℕ
first_round test count at = option_or (first_from test at (count - at)) (first_from test 0 at)

abbrev pub then_on : {A B : Type 0} → Option A → (A → Option B) → Option B
then_on None next = None
then_on (Some a) next = next a

-- ---- Assigns and Answers

-- the determined cycle of module m's first step without one; 0 where there is none
abbrev pub cycle_found : {S : Type 0} → Design S → Core S → ℕ → ℕ
cycle_found {S} d x m = unwrap_or (candidate d (view d x) m) 0

unfoldable pub may_time : {S : Type 0} → Design S → ℕ → Core S → ℕ → Bool
may_time {S} d limit x m = may_assign d limit x m || may_answer d limit x m

-- the core after module m's Assign or Answer
unfoldable pub after_timing : {S : Type 0} → Design S → ℕ → Core S → ℕ → Core S
after_timing {S} d limit x m =
    cond (may_assign d limit x m) (after_assign x m (cycle_found d x m)) (after_answer d x m (cycle_found d x m))

unfoldable pub next_timing : {S : Type 0} → Design S → ℕ → Core S → ℕ → Option ℕ
next_timing {S} d limit x at = first_round (may_time d limit x) d.modules at

-- the core after this many Assigns and Answers, module by module and round after round, if none is permitted then
abbrev pub timings : {S : Type 0} → Design S → ℕ → ℕ → ℕ → Core S → Option (Core S)
timings {S} d limit zero at x = cond (is_none (next_timing d limit x at)) (Some x) None
timings {S} d limit (suc n) at x = then_on (next_timing d limit x at) (λ m. timings d limit n m (after_timing d limit x m))

-- ---- Earliest and Runs

unfoldable pub first_earliest : {S : Type 0} → Design S → ℕ → Core S → Option ℕ
first_earliest {S} d limit x = first_from (may_earliest d limit x) 0 d.modules

-- the core after the Earliest of the first module for which one is permitted
abbrev pub earliest_of : {S : Type 0} → Design S → ℕ → Core S → Option (Core S)
earliest_of {S} d limit x = then_on (first_earliest d limit x) (λ m. Some (after_answer d x m (cycle_found d x m)))

-- the core after this many Runs of module m, if each is permitted
abbrev pub runs_of : {S : Type 0} → Design S → ℕ → ℕ → Core S → Option (Core S)
runs_of {S} d m zero x = Some x
runs_of {S} d m (suc n) x = cond (may_run d x m) (runs_of d m n (after_run d x m)) None
