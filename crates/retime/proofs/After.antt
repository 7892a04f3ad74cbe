-- What is held after an edit agrees with the history of the edited design.
use Rattle.std.proofs.Common.{ℕ, ◌<◌, length, arith}
use Rattle.retime.specs.{ModuleState, Edit, log_at, Guard, Design, IsDesign, Trace, edited, after_edit, IsAgreed, core_of, Engine, held_in}
use Rattle.retime.specs.{IsKept, LeadsAll, IsEditOf, RecordGrows, OutcomesGrow}
use Rattle.event_timing.specs.Core.{Core}
use Rattle.event_timing.proofs.{Agreement.all_agree, Editing.edit_design}
use Rattle.retime.proofs.{Agreeing.cut_agrees, Counts.same_steps, Growing.records_grow, Outcomes.outcomes_grow}

module _ (d : Design ModuleState) (y z : Trace ModuleState) (limit : ℕ) (old new : Engine) (guard : Guard)
    (edit : Edit) (t : ℕ) (e : IsEditOf d y z limit old new guard edit t) where
  abbrev f : Design ModuleState
  f = edited d edit.channel edit.depth

  abbrev x : Core ModuleState
  x = after_edit d (core_of d (held_in old)) t

  is_kept : IsKept d (held_in old)
  is_kept = record { sound = e.final.sound; marks = e.final.agreed.marks; earlier = e.final.agreed.time.verified_then }

  is_design : IsDesign f
  is_design = edit_design d edit.channel edit.depth e.final.design

  leads : LeadsAll f limit x (held_in new)
  leads = (e.retimed d e.final.design is_kept).0

  cut : IsAgreed f z limit x
  cut = cut_agrees d y limit (held_in old) e.final edit t e.from e.lags z e.history

  pub agreed_after : IsAgreed f z limit (core_of f (held_in new))
  agreed_after = all_agree f z is_design e.history limit x cut leads.actions (core_of f (held_in new)) leads.all

  grows : (m : ℕ) → RecordGrows x (core_of f (held_in new)) m
  grows m = records_grow f z is_design e.history limit x cut leads.actions leads.timings (core_of f (held_in new)) leads.all m

  pub outcomes_after : (m : ℕ) → m < length old.log.logs → OutcomesGrow (log_at old.log.logs m) (log_at new.log.logs m)
  outcomes_after m l =
      outcomes_grow d f (held_in old) (held_in new) t m e.final.sound leads.kept.sound l
      (let a = e.final.sound.logs in let b = leads.kept.sound.logs in omega arith)
      (same_steps old.graph.lanes new.graph.lanes e.steps m) (grows m)
