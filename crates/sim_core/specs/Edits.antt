-- What an edit of a depth makes of a core.
use Rattle.std.specs.Prelude.{◌≡◌, ℕ, ◌+◌, ◌<◌, ◌≤◌, ◌⊎◌, List, Some, length, map}
use Rattle.flow_design.specs.{Edit}
use Rattle.flow_word.specs.{Place}
use Rattle.event_graph.specs.{Lane, cycle_of, timed_below}
use Rattle.fifo_table.specs.{channel_at, depth_of}
use Rattle.query_log.specs.{log_at}
use Rattle.outcome_guard.specs.{Guard, declared.guard.Guard.TheVariants.Same, declared.guard.Guard.TheVariants.Differs}
use Rattle.event_timing.specs.{IsFinal, IsAgreed, after_edit}
use Rattle.timing_bridge.specs.{design, lockstep_run}
use Rattle.engine_view.specs.{IsSound}
use Rattle.retime.specs.{IsEditFrom, IsOtherInHistory, OutcomesGrow, LeadsAll, HasEnded, only_steps, cycles_in, steps_in_lanes}
use Rattle.cycle_changes.specs.{moved_in}
use Rattle.sim_core.specs.Views.{CoreView, theory_of}

-- the FIFO has the depth already, and nothing changed
pub record IsAsBefore (old new : CoreView) (e : Edit) (guard : Guard) (before after : ℕ) : Type 0 where
  pub stands : depth_of (channel_at old.held.channels e.channel).kind ≡ e.depth
  pub same : guard ≡ Same
  pub core : new ≡ old
  pub no_tick : after ≡ before

-- the cycles below a clock stay, the first touched clock or the limit where there is none; from it on Assigns and Answers were done
-- as long as one was permitted, or until the outcome that was found for a query was not the recorded one
pub record IsRetimed (old new : CoreView) (e : Edit) (guard : Guard) (before after : ℕ) : Type 0 where
  pub clock : ℕ
  pub from : IsEditFrom old.held.lanes old.held.channels e old.plan.cycles clock
  pub leads : LeadsAll (design new.plan) new.plan.cycles (after_edit (design old.plan) (theory_of old) clock) new.held
  pub ended : HasEnded guard (design new.plan) new.plan.cycles new.held
  -- there was one tick for each cycle that was given; they are at most the steps whose cycles did not stay
  pub ticked : after + cycles_in (map (timed_below clock) old.held.lanes) ≡ before + cycles_in new.held.lanes
  pub few : after + cycles_in (map (timed_below clock) old.held.lanes) ≤ before + steps_in_lanes old.held.lanes
  pub outcomes : (m : ℕ) → m < length old.held.logs → OutcomesGrow (log_at old.held.logs m) (log_at new.held.logs m)

-- each step with a cycle below the clock keeps it
abbrev pub StayBelow : ℕ → List Lane → List Lane → Type 0
StayBelow clock old new = (at : Place) (c : ℕ) → cycle_of old at ≡ Some c → c < clock → cycle_of new at ≡ Some c

-- few cycles changed: with the new ones the core is a final core of the edited plan
pub record IsChanged (old new : CoreView) (e : Edit) (guard : Guard) (before after : ℕ) : Type 0 where
  pub clock : ℕ
  pub from : IsEditFrom old.held.lanes old.held.channels e old.plan.cycles clock
  pub same : guard ≡ Same
  pub sound : IsSound (design new.plan) new.held
  pub agreed : IsAgreed (design new.plan) (lockstep_run new.plan) new.plan.cycles (theory_of new)
  pub final : IsFinal (design new.plan) new.plan.cycles (theory_of new)
  pub steps : only_steps new.held.lanes ≡ only_steps old.held.lanes
  pub logs : new.held.logs ≡ old.held.logs
  pub over : new.held.over ≡ old.held.over
  pub stay : StayBelow clock old.held.lanes new.held.lanes
  -- there was one tick for each step that has another cycle
  pub ticked : after ≡ before + moved_in old.held.lanes new.held.lanes
  -- there were at most as many ticks as steps without a cycle below the first touched clock
  pub few : after + cycles_in (map (timed_below clock) old.held.lanes) ≤ before + steps_in_lanes old.held.lanes

abbrev pub IsEdited : CoreView → CoreView → Edit → Guard → ℕ → ℕ → Type 0
IsEdited old new e guard before after =
    IsAsBefore old new e guard before after ⊎ (IsRetimed old new e guard before after ⊎ IsChanged old new e guard before after)

-- a query that is found with another outcome than the recorded one has another one in the plan's lockstep run too
abbrev pub IsTrueGuard : Guard → CoreView → Type 0
IsTrueGuard Same v = Unit {0}
IsTrueGuard (Differs q) v = IsOtherInHistory (design v.plan) (lockstep_run v.plan) v.held q
