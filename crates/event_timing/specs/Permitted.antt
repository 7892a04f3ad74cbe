-- Tests that compute which actions are permitted.
use Rattle.std.specs.Prelude.{Bool, None, Option, Some, false, ltb, not, suc, true, zero, ℕ, ◌&&◌, ◌≡◌, ◌≤◌}
use Rattle.event_timing.specs.{Machines.Design, Views.first_accesses, Core.Core, Core.values_there, Core.view}
use Rattle.event_timing.specs.Enablers.{known_of, candidate, all_decided}

-- the core has emitted steps of the design's modules alone
abbrev pub IsInside : {S : Type 0} → Design S → Core S → Type 0
IsInside {S} d x = (m : ℕ) → d.modules ≤ m → x.emitted m ≡ 0

-- the last of the first n steps of module m has every reply; true where n is 0
abbrev pub has_replies : {S : Type 0} → Design S → Core S → ℕ → ℕ → Bool
has_replies {S} d x m zero = true
has_replies {S} d x m (suc k) = x.answered m k && values_there d x m k

unfoldable pub may_run : {S : Type 0} → Design S → Core S → ℕ → Bool
may_run {S} d x m = ltb m d.modules && (not (x.over m) && has_replies d x m (x.emitted m))

-- there is a clock, and it is before the limit
abbrev pub is_before : ℕ → Option ℕ → Bool
is_before limit None = false
is_before limit (Some c) = ltb c limit

unfoldable pub is_determined : {S : Type 0} → Design S → ℕ → Core S → ℕ → Bool
is_determined {S} d limit x m = is_before limit (candidate d (view d x) m)

unfoldable pub may_assign : {S : Type 0} → Design S → ℕ → Core S → ℕ → Bool
may_assign {S} d limit x m = is_determined d limit x m && x.verified m (x.timed m)

-- each query of module m's first step without a cycle is decided
unfoldable pub decides : {S : Type 0} → Design S → Core S → ℕ → Bool
decides {S} d x m = all_decided (known_of d (view d x) m) (first_accesses (view d x) m)

unfoldable pub may_answer : {S : Type 0} → Design S → ℕ → Core S → ℕ → Bool
may_answer {S} d limit x m = is_determined d limit x m && (not (x.verified m (x.timed m)) && decides d x m)

unfoldable pub is_open : {S : Type 0} → Design S → ℕ → Core S → ℕ → Bool
is_open {S} d limit x m = is_determined d limit x m && (not (x.verified m (x.timed m)) && not (decides d x m))

-- none of the first n modules passes the test
unfoldable pub passes_no_module : (ℕ → Bool) → ℕ → Bool
passes_no_module test zero = true
passes_no_module test (suc n) = not (test n) && passes_no_module test n

unfoldable pub is_quiet : {S : Type 0} → Design S → ℕ → Core S → Bool
is_quiet {S} d limit x =
    passes_no_module (may_run d x) d.modules
    && (passes_no_module (may_assign d limit x) d.modules && passes_no_module (may_answer d limit x) d.modules)

-- module n has an open step with a cycle less than the given clock
unfoldable pub is_open_before : {S : Type 0} → Design S → ℕ → Core S → Option ℕ → ℕ → Bool
is_open_before {S} d limit x None n = false
is_open_before {S} d limit x (Some c) n = is_open d limit x n && is_before c (candidate d (view d x) n)

unfoldable pub may_earliest : {S : Type 0} → Design S → ℕ → Core S → ℕ → Bool
may_earliest {S} d limit x m =
    is_open d limit x m && (is_quiet d limit x && passes_no_module (is_open_before d limit x (candidate d (view d x) m)) d.modules)

-- no action is permitted: with an open step there would be one with the least cycle, and its Earliest would be permitted
unfoldable pub is_final : {S : Type 0} → Design S → ℕ → Core S → Bool
is_final {S} d limit x = is_quiet d limit x && passes_no_module (is_open d limit x) d.modules
