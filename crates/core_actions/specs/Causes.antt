-- Why an action is not permitted: the first of its conditions that fails.
use Rattle.std.specs.Prelude.{Bool, List, None, Option, Some, [], false, leb, length, ltb, not, option_map, position, suc, true, unwrap_or}
use Rattle.std.specs.Prelude.{zero, ℕ, ◌&&◌, ◌++◌, ◌||◌, ◌∷◌}
use Rattle.std.specs.List.{range_with_len, zip}
use Rattle.flow_word.specs.{Place, declared.access.Side.TheVariants.Pop}
use Rattle.engine_view.specs.{place_of}
use Rattle.event_timing.specs.{Access, Design, first_accesses, MayRun, MayAssign, MayAnswer, MayEarliest, Known, candidate, is_decided}
use Rattle.event_timing.specs.{known_of, core_accesses, core_tally, core_values, pops_now, view, decides, is_open_before, may_answer}
use Rattle.event_timing.specs.{may_assign, may_run, Enablers.Known.From, Enablers.Known.Never, Enablers.Known.Unknown, Core.Core}
use Rattle.core_actions.specs.{declared.actions.Action.Action, declared.actions.Cause.Cause}
use Rattle.core_actions.specs.declared.actions.Action.TheVariants.{Run, Assign, Answer, Earliest}
use Rattle.event_timing.specs.Actions as theory
use Rattle.core_actions.specs.declared.actions.Cause.TheVariants as cause

-- ---- actions

-- an action as one of the theory
abbrev pub as_theory : Action → theory.Action
as_theory (Run m) = theory.Action.Run m
as_theory (Assign m) = theory.Action.Assign m
as_theory (Answer m) = theory.Action.Answer m
as_theory (Earliest m) = theory.Action.Earliest m

abbrev pub acting_module : Action → ℕ
acting_module (Run m) = m
acting_module (Assign m) = m
acting_module (Answer m) = m
acting_module (Earliest m) = m

-- the theory permits the action
abbrev pub IsPermitted : {S : Type 0} → Design S → ℕ → Core S → Action → Type 0
IsPermitted {S} d limit x (Run m) = MayRun d x m
IsPermitted {S} d limit x (Assign m) = (c : ℕ) × MayAssign d limit x m c
IsPermitted {S} d limit x (Answer m) = (c : ℕ) × MayAnswer d limit x m c
IsPermitted {S} d limit x (Earliest m) = (c : ℕ) × MayEarliest d limit x m c

-- ---- the conditions: each gives its cause where it fails

abbrev pub cause_if : Bool → Cause → Option Cause
cause_if true c = Some c
cause_if false c = None

-- the place of module m's first step without a cycle
abbrev pub first_place : {S : Type 0} → Core S → ℕ → Place
first_place {S} x m = place_of m (x.timed m)

-- the access lacks its reply: it is a query without an outcome, or a pop whose value is not there
abbrev pub lacks_reply : {S : Type 0} → Design S → Core S → ℕ → ℕ → Access → Bool → Bool
lacks_reply {S} d x m k a done =
    (not a.blocks && not (x.answered m k))
    || (pops_now a done && not (ltb (core_tally d x m Pop a.channel k) (length (core_values d x a.channel))))

-- the number of the first access of step k whose reply is not there
abbrev pub first_lacking : {S : Type 0} → Design S → Core S → ℕ → ℕ → Option ℕ
first_lacking {S} d x m k = position (λ p. lacks_reply d x m k p.0 p.1) (zip (core_accesses d x m k) (x.flags m k))

-- the cause that the last of the first n steps of module m lacks a reply
abbrev pub waiting_cause : {S : Type 0} → Design S → Core S → ℕ → ℕ → Option Cause
waiting_cause {S} d x m zero = None
waiting_cause {S} d x m (suc k) = option_map (cause.Waiting (place_of m k)) (first_lacking d x m k)

abbrev pub over : {S : Type 0} → Core S → ℕ → Option Cause
over {S} x m = cause_if (x.over m) (cause.Over m)

abbrev pub no_step_cause : {S : Type 0} → Core S → ℕ → Option Cause
no_step_cause {S} x m = cause_if (not (ltb (x.timed m) (x.emitted m))) (cause.NoStep m)

-- it is known from which clock on an access is possible; and then, an access blocks, and this is not known
abbrev pub has_clock : Known → Bool
has_clock (From u) = true
has_clock Never = false
has_clock Unknown = false

abbrev pub is_held : (Access → Known) → Access → Bool
is_held know a = a.blocks && not (has_clock (know a))

abbrev pub undetermined : {S : Type 0} → Design S → Core S → ℕ → Option Cause
undetermined {S} d x m =
    option_map (cause.Undetermined (first_place x m)) (position (is_held (known_of d (view d x) m)) (first_accesses (view d x) m))

-- there is a clock, and it is the limit or later
abbrev pub is_late : ℕ → Option ℕ → Bool
is_late limit None = false
is_late limit (Some c) = leb limit c

abbrev pub at_limit : {S : Type 0} → Design S → ℕ → Core S → ℕ → Option Cause
at_limit {S} d limit x m = cause_if (is_late limit (candidate d (view d x) m)) (cause.AtLimit (first_place x m))

-- the access is a query without a verified outcome: the outcomes of a step are verified all at once
abbrev pub is_unverified : {S : Type 0} → Core S → ℕ → Access → Bool
is_unverified {S} x m a = not a.blocks && not (x.verified m (x.timed m))

abbrev pub is_undecided : (Access → Known) → Access → Bool
is_undecided know a = not a.blocks && not (is_decided (know a))

abbrev pub unverified : {S : Type 0} → Design S → Core S → ℕ → Option Cause
unverified {S} d x m = option_map (cause.Unsettled (first_place x m)) (position (is_unverified x m) (first_accesses (view d x) m))

abbrev pub undecided : {S : Type 0} → Design S → Core S → ℕ → Option Cause
undecided {S} d x m =
    option_map (cause.Unsettled (first_place x m)) (position (is_undecided (known_of d (view d x) m)) (first_accesses (view d x) m))

abbrev pub no_query : {S : Type 0} → Core S → ℕ → Option Cause
no_query {S} x m = cause_if (x.verified m (x.timed m)) (cause.NoQuery (first_place x m))

abbrev pub decided_cause : {S : Type 0} → Design S → Core S → ℕ → Option Cause
decided_cause {S} d x m = cause_if (decides d x m) (cause.Decided (first_place x m))

-- the first module that passes the test
abbrev pub first_passing : {S : Type 0} → Design S → (ℕ → Bool) → Option ℕ
first_passing {S} d test = position test (range_with_len 0 d.modules)

abbrev pub is_busy : {S : Type 0} → Design S → ℕ → Core S → ℕ → Bool
is_busy {S} d limit x n = may_run d x n || (may_assign d limit x n || may_answer d limit x n)

abbrev pub busy : {S : Type 0} → Design S → ℕ → Core S → Option Cause
busy {S} d limit x = option_map cause.Busy (first_passing d (is_busy d limit x))

-- module n has an open step with a lesser cycle than that of module m
abbrev pub is_earlier : {S : Type 0} → Design S → ℕ → Core S → ℕ → ℕ → Bool
is_earlier {S} d limit x m n = is_open_before d limit x (candidate d (view d x) m) n

abbrev pub later_than : {S : Type 0} → Design S → Core S → ℕ → Cause
later_than {S} d x n = cause.Later n (unwrap_or (candidate d (view d x) n) 0)

abbrev pub later : {S : Type 0} → Design S → ℕ → Core S → ℕ → Option Cause
later {S} d limit x m = option_map (later_than d x) (first_passing d (is_earlier d limit x m))

-- ---- the first condition that fails

abbrev pub first_some : {A : Type 0} → List (Option A) → Option A
first_some {A} [] = None
first_some {A} (None ∷ rest) = first_some rest
first_some {A} (Some a ∷ rest) = Some a

-- the conditions of a determined step: module m's first step without a cycle has a determined cycle, below the limit
abbrev pub cycle_causes : {S : Type 0} → Design S → ℕ → Core S → ℕ → List (Option Cause)
cycle_causes {S} d limit x m = no_step_cause x m ∷ undetermined d x m ∷ at_limit d limit x m ∷ []

-- the conditions of an open step: it is determined, and has queries without a verified outcome of which some are undecided
abbrev pub open_causes : {S : Type 0} → Design S → ℕ → Core S → ℕ → List (Option Cause)
open_causes {S} d limit x m = cycle_causes d limit x m ++ no_query x m ∷ decided_cause d x m ∷ []

-- the conditions of each action, in the order in which they are tried
abbrev pub causes : {S : Type 0} → Design S → ℕ → Core S → Action → List (Option Cause)
causes {S} d limit x (Run m) = waiting_cause d x m (x.emitted m) ∷ over x m ∷ []
causes {S} d limit x (Assign m) = cycle_causes d limit x m ++ unverified d x m ∷ []
causes {S} d limit x (Answer m) = cycle_causes d limit x m ++ undecided d x m ∷ no_query x m ∷ []
causes {S} d limit x (Earliest m) = open_causes d limit x m ++ busy d limit x ∷ later d limit x m ∷ []

-- the first condition of an action that fails, if one does
abbrev pub cause_of : {S : Type 0} → Design S → ℕ → Core S → Action → Option Cause
cause_of {S} d limit x action = first_some (causes d limit x action)
