-- The gaps of a run are short, one by one and all together.
use Rattle.std.proofs.Common.{◌≡◌, ℕ, ◌+◌, ◌^◌, ◌<◌, ◌≤◌, List, [], ◌∷◌, length, false, sym, subst, arith}
use Rattle.std.proofs.lemmas.List.Sums.{sum_by-append}
use Rattle.std.specs.Prelude.{sum_by}
use Rattle.flow_design.specs.declared.design.Module.{Module}
use Rattle.module_interp.specs.{Plan, Reply, FitsEngine, Request, opened, module_at, quiet, skip, IsStateOf, OwnStep, Own, own_after}
use Rattle.module_interp.specs.{ModuleRun, IsInTime, StandsAt, to_rest, first_rest, next_rest, requests_at, clocks_to_rest}
use Rattle.lockstep_defs.proofs.{Resting.quiet_goes, States.opened_state}
use Rattle.module_code.proofs.Begins.{opened_clock}
use Rattle.module_interp.proofs.Timing.{module_sound, opened_in_time, moved_in_time, skip_goes_on}

-- ---- all gaps together

-- the clocks that an own run has made, and those to go, stay below the bound
abbrev pub IsOwnInTime : Plan → ℕ → Own → Type 0
IsOwnInTime p i o = IsInTime p (module_at p i) o.state (clocks_to_rest o)

rest_in_time : (p : Plan) → FitsEngine p → (i : ℕ) → i < length p.design.modules → (o : Own) → IsStateOf (module_at p i) o.state
    → IsOwnInTime p i o → IsOwnInTime p i (to_rest p i o)
rest_in_time p h i l o state time =
    let n = quiet p i o.state in
    let whole : clocks_to_rest o + n ≡ clocks_to_rest (to_rest p i o) = omega arith in
    let later = skip_goes_on p h i l o.state (clocks_to_rest o) (record { state = state; time = time }) n (quiet_goes p i o.state) in
    subst (IsInTime p (module_at p i) (skip p i n o.state)) whole later.time

pub first_in_time : (p : Plan) → FitsEngine p → (i : ℕ) → i < length p.design.modules → IsOwnInTime p i (first_rest p i)
first_in_time p h i l =
    let m = module_at p i in
    let state = opened_state (length p.design.channels) m (module_sound p h i l) in
    rest_in_time p h i l (record { state = opened m; steps = []; since = 0 }) state
    (opened_in_time p h i l (opened m) state (opened_clock m))

-- the step's own gap is counted, and one local clock more
after_clocks : (m : Module) (o : Own) (r : Request) (rs : List Request) (qs : List Reply)
    → clocks_to_rest (own_after m o (r ∷ rs) qs) ≡ clocks_to_rest o + 1
after_clocks m o r rs qs =
    let gap = λ (s : OwnStep). s.gap in
    let step : OwnStep = record { gap = o.since; requests = r ∷ rs; replies = qs } in
    let all = sum_by-append gap o.steps (step ∷ []) in
    let last : sum_by gap (step ∷ []) ≡ o.since = omega arith in
    omega arith

after_in_time : (p : Plan) → FitsEngine p → (i : ℕ) → i < length p.design.modules → (o : Own) (rs : List Request) (qs : List Reply)
    → 0 < length rs
    → IsStateOf (module_at p i) o.state → o.state.ended ≡ false → o.state.count < p.ops → IsOwnInTime p i o
    → IsOwnInTime p i (own_after (module_at p i) o rs qs)
after_in_time p h i l o [] qs some state alive few time = absurd (omega arith)
after_in_time p h i l o (r ∷ rs) qs some state alive few time =
    let m = module_at p i in
    subst (IsInTime p m (own_after m o (r ∷ rs) qs).state) (sym (after_clocks m o r rs qs))
    (moved_in_time p h i l o.state qs (clocks_to_rest o) state alive few time)

-- a rest after a step
pub next_in_time : (p : Plan) → FitsEngine p → (i : ℕ) → i < length p.design.modules → (o : Own) (qs : List Reply)
    → 0 < length (requests_at p i o)
    → IsStateOf (module_at p i) o.state → o.state.ended ≡ false → o.state.count < p.ops
    → IsStateOf (module_at p i) (own_after (module_at p i) o (requests_at p i o) qs).state
    → IsOwnInTime p i o → IsOwnInTime p i (next_rest p i o qs)
next_in_time p h i l o qs some state alive few later time =
    rest_in_time p h i l (own_after (module_at p i) o (requests_at p i o) qs) later
    (after_in_time p h i l o (requests_at p i o) qs some state alive few time)

pub short_run : (p : Plan) (i : ℕ) (o : Own) (r : ModuleRun) → StandsAt p i o r → clocks_to_rest o < 10 ^ 18
short_run p i o r s = let bound = s.in_time.since in omega arith

-- ---- one gap

pub short_gap : (p : Plan) (i : ℕ) (o : Own) (r : ModuleRun) → StandsAt p i o r → o.since < 10 ^ 18
short_gap p i o r s = let all = short_run p i o r s in omega arith

after_least : (m : Module) (o : Own) (rs : List Request) (qs : List Reply) → 1 ≤ (own_after m o rs qs).since
after_least m o [] qs = omega arith
after_least m o (r ∷ rs) qs = omega arith

pub least_gap : (p : Plan) (i : ℕ) (o : Own) (qs : List Reply) → 1 ≤ (next_rest p i o qs).since
least_gap p i o qs =
    let least = after_least (module_at p i) o (requests_at p i o) qs in
    omega arith
