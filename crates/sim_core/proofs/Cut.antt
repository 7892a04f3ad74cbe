-- The core from which an edit goes on.
use Rattle.std.proofs.Common.{refl, sym, subst, ℕ}
use Rattle.sim_core.specs.{Edit, Plan, with_depth, EditFits, FitsEngine, ModuleState, Design, IsHistory, IsAgreed, edited, after_edit}
use Rattle.sim_core.specs.{IsFinal, MayRun, design, lockstep_run, core_of, IsSound, IsFinalOf, IsEditFrom}
use Rattle.event_timing.proofs.NoRun.{edit_no_run}
use Rattle.timing_bridge.proofs.{Edits.edited_fits, Edits.same_design, History.plan_is_design, History.run_is_history}
use Rattle.engine_view.specs.Held.{Held}
use Rattle.retime.proofs.Agreeing.{cut_agrees}

module _ (p : Plan) (fits : FitsEngine p) (e : Edit) (fit : EditFits p e) (h : Held) (sound : IsSound (design p) h)
    (agreed : IsAgreed (design p) (lockstep_run p) p.cycles (core_of (design p) h))
    (final : IsFinal (design p) p.cycles (core_of (design p) h)) where
  abbrev q : Plan
  q = with_depth p e.channel e.depth

  pub final_of : IsFinalOf (design p) (lockstep_run p) p.cycles h
  final_of = record { design = plan_is_design p fits; history = run_is_history p fits; sound = sound; agreed = agreed; final = final }

  pub history_of : IsHistory (edited (design p) e.channel e.depth) (lockstep_run q)
  history_of =
      subst (λ (f : Design ModuleState). IsHistory f (lockstep_run q)) (sym (same_design p e.channel e.depth fit.entry))
      (run_is_history q (edited_fits p fits e fit))

  -- it agrees with the edited plan
  pub cut_of : (t : ℕ) → IsEditFrom h.lanes h.channels e p.cycles t
      → IsAgreed (design q) (lockstep_run q) p.cycles (after_edit (design p) (core_of (design p) h) t)
  cut_of t from =
      subst (λ (f : Design ModuleState). IsAgreed f (lockstep_run q) p.cycles (after_edit (design p) (core_of (design p) h) t))
      (same_design p e.channel e.depth fit.entry)
      (cut_agrees (design p) (lockstep_run p) p.cycles h final_of e t from (λ c. refl) (lockstep_run q) history_of)

  -- and permits no Run
  pub cut_stays : (t m : ℕ) → MayRun (design q) (after_edit (design p) (core_of (design p) h) t) m → ⊥
  cut_stays t m may =
      final.quiet.no_run m (edit_no_run (design p) (core_of (design p) h) e.channel e.depth t m
      (subst (λ (f : Design ModuleState). MayRun f (after_edit (design p) (core_of (design p) h) t) m)
      (sym (same_design p e.channel e.depth fit.entry)) may))
