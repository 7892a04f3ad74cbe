-- A session of depth edits, in terms of its plans' reports alone.
use Rattle.std.specs.Prelude.{◌≡◌, Bool, true, false}
use Rattle.flow_design.specs.{Edit, Plan, with_depth}
use Rattle.lockstep_defs.specs.{report}
use Rattle.outcome_guard.specs.{RunCount, first_counts, next_counts}

-- the present plan, the answers that are kept with the count of runs, and whether no edit so far ran out of memory
pub record SessionView : Type 0 where
  pub plan : Plan
  pub count : RunCount
  pub live : Bool

-- the session of a plan before any edit
abbrev pub opening_session : Plan → SessionView
opening_session p = record { plan = p; count = first_counts (report p).answers; live = true }

abbrev pub plan_with_edit : SessionView → Edit → Plan
plan_with_edit s e = with_depth s.plan e.channel e.depth

-- the session after one more edit, whose report counts
abbrev pub with_edit : SessionView → Edit → SessionView
with_edit s e = record { plan = plan_with_edit s e; count = next_counts s.count (report (plan_with_edit s e)).answers; live = true }

-- the session after an edit that ran out of memory: the plan is edited, and nothing more is counted
pub record IsBroken (old new : SessionView) (e : Edit) : Type 0 where
  pub plan : new.plan ≡ plan_with_edit old e
  pub runs : new.count.runs ≡ old.count.runs
  pub stopped : new.live ≡ false
