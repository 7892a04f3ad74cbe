use Rattle.std.proofs.Common.{refl, sym, ◌∙◌}
use Rattle.sim_core.specs.{design, held_in}
use Rattle.timing_bridge.proofs.History.{plan_is_design}
use Rattle.engine_view.proofs.Bounds.{candidate_is}
use Rattle.sim_core.proofs.machine.Core.has_cycle.Goals as goal

pub returns-in-At-clause-some : goal.returns-in-At-clause-some
returns-in-At-clause-some c = λ e.
    let p = c.self.inside.plan in
    let k = c.self.invariant.core in
    let h = held_in c.self.inside.engine in
    let (at, below) = (c.in-At.ensures.at c.in-At.field-0).0 refl in
    let is = candidate_is (design p) (plan_is_design p k.fits) h k.sound c.args.owner in
    rw (← c.self.view_is) (c.in-At.field-0, record { at = sym is ∙ at; below = below })

pub returns-in_default : goal.returns-in_default
returns-in_default c = record {
  some = λ e. cc;
  none = λ e.
      let p = c.self.inside.plan in
      let k = c.self.invariant.core in
      let h = held_in c.self.inside.engine in
      let is = candidate_is (design p) (plan_is_design p k.fits) h k.sound c.args.owner in
      rw (← c.self.view_is) (λ cycle n. c.in_default.not-At cycle ((c.candidate.ensures.at cycle).1 (is ∙ n.at, n.below)));
}
