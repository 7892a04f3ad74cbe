-- How far a job of reports has come.
use Rattle.std.specs.Prelude.{◌≡◌, ℕ, ◌+◌, ◌≤◌, Bool, List, Option, if◌then◌else◌}
use Rattle.std.specs.Io.KnownBytes.{Appends}
use Rattle.flow_design.specs.{Plan, Edit, FitsEngine}
use Rattle.lockstep_defs.specs.{report}
use Rattle.outcome_guard.specs.{first_counts, next_counts, RunCount}
use Rattle.whole_answer.specs.declared.ending.Ending.{Ending}
use Rattle.whole_answer.specs.Job.{plan_at, first_numbers, texts_of, counts_in, ending_of, is_done, first_not_done, endings_of}

-- what is kept of the reports so far: the ending of the first whose plan is not done, and the count of runs
pub record ReportsTold : Type 0 where
  pub ending : Ending
  pub count : RunCount

abbrev pub told_of : Ending → RunCount → ReportsTold
told_of ending count = record { ending = ending; count = count }

-- what is kept after the report of the plan itself
unfoldable pub first_told : Plan → ReportsTold
first_told p = record { ending = ending_of (report p).verdict; count = first_counts (report p).answers }

-- what is kept after one more report, of an edited plan
unfoldable pub more_told : Plan → ReportsTold → ReportsTold
more_told p told = record {
  ending = if is_done told.ending then ending_of (report p).verdict else told.ending;
  count = next_counts told.count (report p).answers;
}

-- the job has come to the end of report number k, of the plan after its first k edits
pub record IsGoing (events : Bool) (p : Plan) (edits : List Edit) (k : ℕ) (now : Plan) (told : ReportsTold)
    (first held : Option (List ℕ)) : Type 0 where
  pub plan : now ≡ plan_at p edits k
  pub fits : FitsEngine now
  -- the sink has got the texts of the reports so far
  pub text : Appends first held (texts_of events p edits (first_numbers (k + 1)))
  pub ending : told.ending ≡ first_not_done (endings_of p edits (first_numbers (k + 1)))
  pub count : told.count ≡ counts_in p edits k
  pub runs : told.count.runs ≤ k + 1
