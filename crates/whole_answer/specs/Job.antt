-- The job of a plan and its edits: a report of the plan and one after each edit, their texts, the number of runs, and the ending.
use Rattle.std.specs.Prelude.{ℕ, ◌+◌, Bool, true, false, if◌then◌else◌, List, [], ◌∷◌, ◌++◌, length, map, take, flat_map}
use Rattle.std.specs.List.{range_with_len}
use Rattle.flow_design.specs.{Plan, Edit, Report, Verdict}
use Rattle.lockstep_defs.specs.{report}
use Rattle.outcome_guard.specs.{RunCount, plan_after, first_counts, counts_after}
use Rattle.report_text.specs.{line, runs_tokens, report_text_of}
use Rattle.whole_answer.specs.{declared.answer.Answer.Answer, declared.ending.Ending.Ending}
use Rattle.whole_answer.specs.declared.ending.Ending.TheVariants.{Done, Words, Text, Deadlock, Cycles, Ops}
use Rattle.flow_design.specs.declared.report.Verdict.TheVariants as verdict

-- ---- the reports

-- the plan after its first k edits
abbrev pub plan_at : Plan → List Edit → ℕ → Plan
plan_at p edits k = plan_after p (take k edits)

-- the report of the plan after its first k edits
unfoldable pub report_after : Plan → List Edit → ℕ → Report
report_after p edits k = report (plan_at p edits k)

-- the numbers of the first n reports
abbrev pub first_numbers : ℕ → List ℕ
first_numbers n = range_with_len 0 n

-- ---- the texts of the reports

abbrev pub texts_of : Bool → Plan → List Edit → List ℕ → List ℕ
texts_of events p edits numbers = flat_map (λ k. report_text_of p.design (report_after p edits k) k events) numbers

-- ---- the runs

-- the count of runs after the first report and n more
abbrev pub counts_in : Plan → List Edit → ℕ → RunCount
counts_in p edits n = counts_after (first_counts (report_after p edits 0).answers)
    (map (λ k. (report_after p edits k).answers) (range_with_len 1 n))

-- ---- the ending

abbrev pub ending_of : Verdict → Ending
ending_of (verdict.Done c) = Done
ending_of (verdict.Deadlock c) = Deadlock
ending_of (verdict.Cycles c) = Cycles
ending_of (verdict.Ops c) = Ops

abbrev pub is_done : Ending → Bool
is_done Done = true
is_done Words = false
is_done Text = false
is_done Deadlock = false
is_done Cycles = false
is_done Ops = false

-- the first ending that is not `Done`; `Done` where all are
abbrev pub first_not_done : List Ending → Ending
first_not_done [] = Done
first_not_done (s ∷ ss) = if is_done s then first_not_done ss else s

abbrev pub endings_of : Plan → List Edit → List ℕ → List Ending
endings_of p edits numbers = map (λ k. ending_of (report_after p edits k).verdict) numbers

-- ---- the job

-- the texts of all reports and the line of the runs, with the ending of the first report whose plan is not done
unfoldable pub job : Bool → Plan → List Edit → Answer
job events p edits = record {
  text = texts_of events p edits (first_numbers (length edits + 1)) ++ line (runs_tokens (counts_in p edits (length edits)).runs);
  ending = first_not_done (endings_of p edits (first_numbers (length edits + 1)));
}
