use Rattle.std.proofs.Common.{refl, subst}
use Rattle.sim_core.specs.{design, IsIdle, CoreView, theory_of}
use Rattle.timing_bridge.proofs.Timings.{no_timing_at}
use Rattle.sim_core.proofs.Stretched as stretched
use Rattle.sim_core.proofs.machine.Core.time_on.Goals as goal

pub returns-then-not-has : goal.returns-then-not-has
returns-then-not-has g c =
    let inside = rw (← c.self.view_is) at c.requires in
    let none = c.self.invariant.due_are.asking_are.idle c.args.owner inside (c.has.ensures.none c.if-not-has.true) in (
      refl,
      refl,
      subst (λ (v : CoreView). IsIdle (design v.plan) v.plan.cycles (theory_of v) c.args.owner) c.self.view_is
          (record {
            no_assign = λ k. (no_timing_at _ _ _ c.args.owner none k).0;
            no_answer = λ k. (no_timing_at _ _ _ c.args.owner none k).1;
          }),
    )

pub returns : goal.returns
returns g c =
    stretched.stretch_leads c.time_stretch.result.visit c.time_stretch.result.answers _ _ c.args.steps.now c.time_stretch.new.steps
    c.args.owner c.time_stretch.ensures.leads
