-- The report that is read off a final core.
use Rattle.std.specs.Prelude.{ℕ, zero, suc, max, is_some, Bool, true, false, not, ◌&&◌, ◌||◌, ◌≡◌, nat_lt, if◌then◌else◌, List, [], ◌++◌}
use Rattle.std.specs.Prelude.{map, length, filter_map, find, Option, None, option_map, AllPairs, flat_map, ◌==◌, IsPermutation, IsSortedBy}
use Rattle.std.specs.List.{range_with_len, list_any}
use Rattle.flow_word.specs.{declared.access.Side.TheVariants.Push, is_blocking}
use Rattle.flow_design.specs.{Plan, Held, Report, Verdict, ClockState, Request, ModuleState}
use Rattle.flow_design.specs.declared.report.Verdict.TheVariants.{Done, Deadlock, Cycles, Ops}
use Rattle.lockstep_defs.specs.{HistoryStep, values, contents_of, requests_of, state, settled_verdict, held_at, paired, owner, IsBefore}
use Rattle.lockstep_defs.specs.{steps_of, outcomes, events_of, sinks}
use Rattle.event_timing.specs.{ready, own, pushed_in, stop, Known, known_of, candidate, core_reply, core_accesses, bare_replies, view}
use Rattle.event_timing.specs.{Enablers.From, Enablers.Never, Enablers.Unknown, Core.Core}
use Rattle.timing_bridge.specs.Designs.{design, seen_request, told_all}

-- ---- steps

-- step k of module i, with its cycle, in the form that the history has
abbrev pub core_step : Plan → Core ModuleState → ℕ → ℕ → HistoryStep
core_step p x i k = record {
  clock = x.cycle i k;
  «module» = i;
  exchanges = paired (requests_of p (i, x.state i k)) (told_all (requests_of p (i, x.state i k)) (core_reply (design p) x i k));
}

-- the steps of module i with a cycle, in order
abbrev pub core_steps : Plan → Core ModuleState → ℕ → List HistoryStep
core_steps p x i = map (core_step p x i) (range_with_len 0 (x.timed i))

-- these are all modules' steps with a cycle, in order of cycles, and within one cycle in order of modules
pub record AreInOrder (p : Plan) (x : Core ModuleState) (steps : List HistoryStep) : Type 0 where
  pub rising : AllPairs IsBefore steps
  pub each : (i : ℕ) → steps_of i steps ≡ core_steps p x i

abbrev pub modules_of : Plan → List ℕ
modules_of p = range_with_len 0 (length p.design.modules)

-- the places of all steps with a cycle, module by module: each is a module's number and the step's number
abbrev pub core_places : Plan → Core ModuleState → List (ℕ × ℕ)
core_places p x = flat_map (λ i. map (λ k. (i, k)) (range_with_len 0 (x.timed i))) (modules_of p)

-- a step comes before another: its cycle is less, or the cycles are equal and its module's number is less
abbrev pub comes_before : Core ModuleState → ℕ × ℕ → ℕ × ℕ → Bool
comes_before x a b = nat_lt (x.cycle a.0 a.1) (x.cycle b.0 b.1) || (x.cycle a.0 a.1 == x.cycle b.0 b.1 && nat_lt a.0 b.0)

-- these are the places of all steps with a cycle, sorted by cycle and module
pub record AreSorted (p : Plan) (x : Core ModuleState) (places : List (ℕ × ℕ)) : Type 0 where
  pub all : IsPermutation (core_places p x) places
  pub sorted : IsSortedBy (comes_before x) places

abbrev pub steps_at : Plan → Core ModuleState → List (ℕ × ℕ) → List HistoryStep
steps_at p x places = map (λ a. core_step p x a.0 a.1) places

-- ---- the verdict

-- the state of module i after its steps with a cycle and the quiet clocks that follow
abbrev pub core_state : Plan → Core ModuleState → ℕ → ModuleState
core_state p x i = ready (design p) i (own (design p) i (core_reply (design p) x i) (x.timed i))

abbrev pub core_states : Plan → Core ModuleState → ClockState
core_states p x = record { modules = map (core_state p x) (modules_of p); contents = [] }

-- the greatest stop of the first n modules
abbrev pub last_stop : Plan → Core ModuleState → ℕ → ℕ
last_stop p x zero = 0
last_stop p x (suc n) = max (stop (design p) x n) (last_stop p x n)

-- the core determines some module's first step without a cycle
abbrev pub determines_some : Plan → Core ModuleState → Bool
determines_some p x = list_any (λ i. is_some (candidate (design p) (view (design p) x) i)) (modules_of p)

-- the verdict that a final core tells: the cycle limit where a step is determined or a stop is above the limit, and else what the
-- states at the last stop say
unfoldable pub core_verdict : Plan → Core ModuleState → Verdict
core_verdict p x =
    if determines_some p x || nat_lt p.cycles (last_stop p x (length p.design.modules)) then Cycles p.cycles
    else settled_verdict p (last_stop p x (length p.design.modules)) (core_states p x)

-- ---- held modules

-- the core knows from which clock on an access is possible
abbrev pub is_from : Known → Bool
is_from (From u) = true
is_from Never = false
is_from Unknown = false

-- the request holds module i: it blocks, and the core does not know from when on it is possible
abbrev pub is_stuck : Plan → Core ModuleState → ℕ → Request → Bool
is_stuck p x i r = is_blocking r.kind && not (is_from (known_of (design p) (view (design p) x) i (seen_request r)))

abbrev pub core_held_by : Plan → Core ModuleState → ℕ → Option Held
core_held_by p x i =
    if nat_lt (x.timed i) (x.emitted i)
    then option_map (held_at i) (find (is_stuck p x i) (requests_of p (i, x.state i (x.timed i))))
    else None

abbrev pub core_held : Plan → Core ModuleState → Verdict → List Held
core_held p x (Done c) = []
core_held p x (Deadlock c) = filter_map (core_held_by p x) (modules_of p)
core_held p x (Cycles c) = []
core_held p x (Ops c) = filter_map (core_held_by p x) (modules_of p)

-- ---- outputs

-- the module that pushes a channel
abbrev pub pusher : Plan → ℕ → ℕ
pusher p f = owner p (record { side = Push; channel = f })

-- all values that were pushed on a channel in steps with a cycle
abbrev pub sink_values : Plan → Core ModuleState → ℕ → List ℕ
sink_values p x f =
    values (contents_of (state p 0).contents f)
    ++ pushed_in f (core_accesses (design p) x (pusher p f)) (λ k. bare_replies (x.flags (pusher p f) k)) (x.timed (pusher p f))

-- ---- the report

-- the report that is read off a final core with these steps, in order, and this verdict
abbrev pub core_report : Plan → Core ModuleState → List HistoryStep → Verdict → Report
core_report p x steps v = record {
  verdict = v;
  outputs = map (sink_values p x) (sinks p);
  held = core_held p x v;
  events = events_of steps;
  answers = map (λ i. outcomes (core_steps p x i)) (modules_of p);
}
