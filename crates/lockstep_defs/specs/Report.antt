-- The report.
use Rattle.std.specs.Prelude.{ℕ, Bool, not, ◌==◌, List, map, filter, flat_map, length}
use Rattle.std.specs.List.{range_with_len}
use Rattle.flow_design.specs.{Plan, EventLine, Report, Verdict, is_sink, kind_at, clock_of, ClockState}
use Rattle.lockstep_defs.specs.{Machine.is_yes, Lockstep.state, Lockstep.history, Verdict.verdict, Verdict.held}
use Rattle.lockstep_defs.specs.Channels.{HistoryStep, Exchange, values, contents_of}
use Rattle.flow_word.specs.{is_blocking}

-- the steps of module i
abbrev pub steps_of : ℕ → List HistoryStep → List HistoryStep
steps_of i steps = filter (λ s. s.«module» == i) steps

-- the queries among these operations
abbrev pub queries : List Exchange → List Exchange
queries xs = filter (λ x. not (is_blocking x.request.kind)) xs

-- the outcomes of the queries in these steps, in order
abbrev pub outcomes : List HistoryStep → List Bool
outcomes steps = flat_map (λ s. map (λ x. is_yes x.reply) (queries s.exchanges)) steps

-- the event of an operation of a step
abbrev pub event_of : HistoryStep → Exchange → EventLine
event_of s x = record { «module» = s.«module»; kind = x.request.kind; channel = x.request.channel; cycle = s.clock }

-- the events of these steps: one for each operation
abbrev pub events_of : List HistoryStep → List EventLine
events_of steps = flat_map (λ s. map (event_of s) s.exchanges) steps

-- the numbers of the sinks, in order
abbrev pub sinks : Plan → List ℕ
sinks p = filter (λ f. is_sink (kind_at p f)) (range_with_len 0 (length p.design.channels))

-- the values that each sink holds
abbrev pub outputs_in : Plan → ClockState → List (List ℕ)
outputs_in p st = map (λ f. values (contents_of st.contents f)) (sinks p)

-- the query outcomes of each module
abbrev pub answers_in : Plan → List HistoryStep → List (List Bool)
answers_in p steps = map (λ i. outcomes (steps_of i steps)) (range_with_len 0 (length p.design.modules))

-- the report with a verdict, from the state in its clock and the steps before it
abbrev pub report_in_state : Plan → Verdict → ClockState → List HistoryStep → Report
report_in_state p v st steps = record {
  verdict = v;
  outputs = outputs_in p st;
  held = held p v st;
  events = events_of steps;
  answers = answers_in p steps;
}

abbrev pub report_at : Plan → Verdict → Report
report_at p v = report_in_state p v (state p (clock_of v)) (history p (clock_of v))

unfoldable pub report : Plan → Report
report p = report_at p (verdict p)
