use Rattle.std.proofs.Common.{refl, subst, sym, List, [], true, true≢false, inl, inr}
use Rattle.std.proofs.lemmas.Bool.{cases_Bool}
use Rattle.flow_design.specs.{Advance}
use Rattle.module_interp.specs.{waits}
use Rattle.run_ahead.specs.{IsBurst}
use Rattle.run_ahead.proofs.{Finding.left_none, Going.begin_waiting, Going.begin_going}
use Rattle.answer_tests.proofs.gates.SecondIsShortGate.burst.Goals as goal

-- a task that comes back as it was is a burst that ended for want of memory
pub returns-then-owner-eq1 : goal.returns-then-owner-eq1
returns-then-owner-eq1 c = λ p m o s.
    let task = c.args.task in
    subst (λ (marks : List Advance). IsBurst p m o task (record { run = task.run; emitted = marks; short = true; mail = task.mail }))
    (sym c.new.ensures)
    (elim (cases_Bool (waits task.run)) [
      | inl w ↦ begin_waiting p m o task.mail true task.run task s w refl refl (λ e. absurd (true≢false e))
      | inr w ↦ begin_going p m o task.mail true task.run task [] w (record { stands = s; goes = w; left = left_none task.mail }, refl)
    ])
