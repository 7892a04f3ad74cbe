-- What is read off the graph, the table and the log.
use Rattle.std.specs.Prelude.{◌≡◌, ℕ, nat_lt, ◌==◌, is_some, Bool, ◌&&◌, ◌||◌, List, [], map, filter_map, find, flat_map, take, length}
use Rattle.std.specs.Prelude.{slice_index_or, option_map, option_and_then, Option, Some, None, IsPermutation, IsSortedBy}
use Rattle.std.specs.List.{range_with_len, take_while}
use Rattle.flow_word.specs.{Access, Step, side_of, same_side, declared.access.Side.TheVariants.Push}
use Rattle.flow_design.specs.{Plan, Held, Verdict, EventLine}
use Rattle.flow_design.specs.declared.report.Verdict.TheVariants.{Done, Deadlock, Cycles, Ops}
use Rattle.lockstep_defs.specs.{sinks}
use Rattle.event_graph.specs.{Lane, lane_at, cycle_of}
use Rattle.fifo_table.specs.{Pushed, Channel, channel_at}
use Rattle.query_log.specs.{Log, log_at}
use Rattle.time_engine.specs.{open_step, is_waiting}
use Rattle.engine_view.specs.{no_step}

-- the numbers of all modules
abbrev pub owners : List Lane → List ℕ
owners lanes = range_with_len 0 (length lanes)

-- ---- outputs

-- the values of these pushes up to the first one whose step has no cycle
abbrev pub timed_values : List Lane → List Pushed → List ℕ
timed_values lanes pushes = map (λ e. e.value) (take_while (λ e. is_some (cycle_of lanes e.at)) pushes)

abbrev pub outputs_of : Plan → List Lane → List Channel → List (List ℕ)
outputs_of plan lanes channels = map (λ f. timed_values lanes (channel_at channels f).pushes) (sinks plan)

-- ---- held modules

-- module i as it is held by an access
abbrev pub held_by_access : ℕ → Access → Held
held_by_access i access = record { «module» = i; full = same_side Push (side_of access.kind); channel = access.channel }

-- module i as it is held by the first access that waits, in its first step without a cycle; none where there is no such access
abbrev pub held_at_open_step : List Lane → List Channel → ℕ → Option Held
held_at_open_step lanes channels i =
    option_and_then (λ step. option_map (held_by_access i) (find (is_waiting lanes channels) step.accesses)) (open_step (lane_at lanes i))

-- the held modules of a report with this verdict; none where all modules are ended or the cycle limit was reached
abbrev pub all_held : List Lane → List Channel → Verdict → List Held
all_held lanes channels (Done clock) = []
all_held lanes channels (Deadlock clock) = filter_map (held_at_open_step lanes channels) (owners lanes)
all_held lanes channels (Cycles clock) = []
all_held lanes channels (Ops clock) = filter_map (held_at_open_step lanes channels) (owners lanes)

-- ---- answers

-- the outcomes of the queries before a step, or all where there is no such step
abbrev pub outcomes_before : List Bool → Option Step → List Bool
outcomes_before outcomes None = outcomes
outcomes_before outcomes (Some step) = take step.first_query outcomes

-- the outcomes of module i's queries in steps with a cycle
abbrev pub timed_outcomes : List Lane → List Log → ℕ → List Bool
timed_outcomes lanes logs i = outcomes_before (log_at logs i).outcomes (open_step (lane_at lanes i))

-- ---- events

-- module i's steps with a cycle, each as the module's number and the step's
abbrev pub numbered_places : List Lane → ℕ → List (ℕ × ℕ)
numbered_places lanes i = map (λ k. (i, k)) (range_with_len 0 (length (lane_at lanes i).cycles))

-- all modules' steps with a cycle, module by module
abbrev pub timed_places : List Lane → List (ℕ × ℕ)
timed_places lanes = flat_map (numbered_places lanes) (owners lanes)

abbrev pub numbered_cycle : List Lane → ℕ × ℕ → ℕ
numbered_cycle lanes place = slice_index_or (lane_at lanes place.0).cycles place.1 0

-- a step comes before another: its cycle is less, or the cycles are equal and its module's number is less
abbrev pub is_step_before : List Lane → ℕ × ℕ → ℕ × ℕ → Bool
is_step_before lanes a b =
    nat_lt (numbered_cycle lanes a) (numbered_cycle lanes b) || (numbered_cycle lanes a == numbered_cycle lanes b && nat_lt a.0 b.0)

abbrev pub event_line : ℕ → ℕ → Access → EventLine
event_line i cycle access = record { «module» = i; kind = access.kind; channel = access.channel; cycle = cycle }

abbrev pub numbered_step : List Lane → ℕ × ℕ → Step
numbered_step lanes place = slice_index_or (lane_at lanes place.0).steps place.1 no_step

-- the events of a step
abbrev pub events_at : List Lane → ℕ × ℕ → List EventLine
events_at lanes place = map (event_line place.0 (numbered_cycle lanes place)) (numbered_step lanes place).accesses

-- these are the events of all steps with a cycle, in order
pub record AreEvents (lanes : List Lane) (events : List EventLine) : Type 0 where
  pub places : List (ℕ × ℕ)
  pub all : IsPermutation (timed_places lanes) places
  pub sorted : IsSortedBy (is_step_before lanes) places
  pub are : events ≡ flat_map (events_at lanes) places
