-- How far the modules came in a simulation, and the verdict.
use Rattle.std.specs.Prelude.{ℕ, ◌+◌, max, nat_lt, is_some, unwrap_or, Bool, true, false, ◌||◌, ◌&&◌, if◌then◌else◌, List, fold}
use Rattle.std.specs.Prelude.{slice_index_or, Option, Some, None}
use Rattle.std.specs.List.{list_any, list_all}
use Rattle.flow_word.specs.{Step as StepOf}
use Rattle.flow_design.specs.{Verdict, Advance}
use Rattle.flow_design.specs.declared.report.Verdict.TheVariants.{Done, Deadlock, Cycles, Ops}
use Rattle.flow_design.specs.declared.state.Advance.TheVariants.{Step, Ended, Spent}
use Rattle.event_graph.specs.{Lane, lane_at, last_cycle}
use Rattle.fifo_table.specs.{Channel}
use Rattle.time_engine.specs.{open_step, arrival, determined}
use Rattle.engine_report.specs.declared.verdict.Standing.{Standing}

-- ---- end marks

-- the gap of an end mark: the local clocks from the last step to the end; 0 where there is no end mark
abbrev pub gap_of_end : Option Advance → ℕ
gap_of_end None = 0
gap_of_end (Some (Step step)) = 0
gap_of_end (Some (Ended gap)) = gap
gap_of_end (Some (Spent gap)) = gap

abbrev pub is_ended : Option Advance → Bool
is_ended None = false
is_ended (Some (Step step)) = false
is_ended (Some (Ended gap)) = true
is_ended (Some (Spent gap)) = false

abbrev pub tells_spent : Option Advance → Bool
tells_spent None = false
tells_spent (Some (Step step)) = false
tells_spent (Some (Ended gap)) = false
tells_spent (Some (Spent gap)) = true

-- the end mark of module i, if there is one
abbrev pub end_at : List (Option Advance) → ℕ → Option Advance
end_at ends i = slice_index_or ends i None

-- ---- modules

-- the standing of a module whose steps all have a cycle, the last of them the given one: it came to its end mark
abbrev pub standing_after : ℕ → Option Advance → Standing
standing_after last end = record { stop = last + gap_of_end end; ended = is_ended end; spent = tells_spent end; determined = false }

-- the standing of module i: with a first step without a cycle it came to this step, and counts as neither ended nor spent
abbrev pub standing_by : List Lane → List Channel → Option Advance → ℕ → Option StepOf → Standing
standing_by lanes channels end i None = standing_after (unwrap_or (last_cycle (lane_at lanes i)) 0) end
standing_by lanes channels end i (Some step) = record {
  stop = arrival (lane_at lanes i) step;
  ended = false;
  spent = false;
  determined = is_some (determined lanes channels i);
}

abbrev pub standing_at : List Lane → List Channel → List (Option Advance) → ℕ → Standing
standing_at lanes channels ends i = standing_by lanes channels (end_at ends i) i (open_step (lane_at lanes i))

-- ---- the verdict

-- the latest clock in which one of these modules stops
abbrev pub latest_stop : List Standing → ℕ
latest_stop standings = fold (λ clock s. max clock s.stop) 0 standings

-- the standing of these modules together: at the last stop, ended where each is ended, spent or determined where one is
abbrev pub together : List Standing → Standing
together standings = record {
  stop = latest_stop standings;
  ended = list_all (λ s. s.ended) standings;
  spent = list_any (λ s. s.spent) standings;
  determined = list_any (λ s. s.determined) standings;
}

-- the standing of some modules together with one more
abbrev pub joined : Standing → Standing → Standing
joined all one = record {
  stop = max all.stop one.stop;
  ended = all.ended && one.ended;
  spent = all.spent || one.spent;
  determined = all.determined || one.determined;
}

-- the verdict: the cycle limit where a step is determined or a stop is above the limit, and else by how the modules ended
abbrev pub verdict_for : ℕ → Standing → Verdict
verdict_for limit all =
    if all.determined || nat_lt limit all.stop then Cycles limit
    else (if all.ended then Done all.stop
    else (if all.spent then Ops all.stop else Deadlock all.stop))

-- the verdict, where the modules have these standings
abbrev pub verdict_by : ℕ → List Standing → Verdict
verdict_by limit standings = verdict_for limit (together standings)
