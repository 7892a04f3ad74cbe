-- What edits make of the records of outcomes.
use Rattle.std.specs.Prelude.{◌≡◌, ◌≢◌, ℕ, ◌<◌, Bool, List, [], length, map, take, slice_get, slice_index_or, Some}
use Rattle.flow_design.specs.{Edit, Plan, EditFits, with_depth, FitsEngine}
use Rattle.lockstep_defs.specs.{report}
use Rattle.query_log.specs.{Query, Log, outcome_of}
use Rattle.outcome_guard.specs.{Guard}
use Rattle.event_timing.specs.{IsFinal, IsAgreed}
use Rattle.timing_bridge.specs.{design, lockstep_run}
use Rattle.engine_view.specs.{IsSound}
use Rattle.sim_core.specs.{Views.CoreView, Views.theory_of, Drives.Goes, Edits.IsEdited}

-- what always holds of a core: it agrees with its plan, which the engine takes
pub record IsSoundCore (v : CoreView) : Type 0 where
  pub fits : FitsEngine v.plan
  pub sound : IsSound (design v.plan) v.held
  pub agreed : IsAgreed (design v.plan) (lockstep_run v.plan) v.plan.cycles (theory_of v)

-- all outcomes that these logs hold, module by module; and then, those of them that are verified
abbrev pub recorded_in : List Log → List (List Bool)
recorded_in logs = map (λ l. l.outcomes) logs

abbrev pub verified_in : List Log → List (List Bool)
verified_in logs = map (λ l. take l.verified l.outcomes) logs

-- an edit of the final core v, and actions after it, led to w
pub record IsEditedOn (v : CoreView) (e : Edit) (w : CoreView) : Type 0 where
  pub from : IsSoundCore v
  pub to : IsSoundCore w
  pub final : IsFinal (design v.plan) v.plan.cycles (theory_of v)
  pub fits : EditFits v.plan e
  pub middle : CoreView
  pub guard : Guard
  pub before : ℕ
  pub now : ℕ
  pub later : ℕ
  pub after : ℕ
  pub plan : middle.plan ≡ with_depth v.plan e.channel e.depth
  pub edited : IsEdited v middle e guard before now
  pub goes : Goes middle later w after

-- the plan's report has another outcome for the query than the one that is recorded under its number
pub record HasOtherAnswer (logs : List Log) (p : Plan) (q : Query) : Type 0 where
  pub inside : q.module < length logs
  pub recorded : Bool
  pub found : Bool
  pub was : outcome_of logs q.module q.number ≡ Some recorded
  pub is : slice_get (slice_index_or (report p).answers q.module []) q.number ≡ Some found
  pub differ : recorded ≢ found
