use Rattle.std.proofs.Common.{refl, ◌<◌, length, arith}
use Rattle.sim_core.specs.{IsHeldOf}
use Rattle.sim_core.proofs.{machine.Core.time_stretch.Given.Over, machine.Core.time_stretch.Goals.After-time_many-timed}
use Rattle.sim_core.proofs.Stretched as stretched
use Rattle.sim_core.proofs.machine.Core.time_stretch.Goals as goal

pub time_many-timed-requires-clause-held : goal.time_many-timed-requires-clause-held
time_many-timed-requires-clause-held g c = (
  c.self.inside.plan,
  (
    c.self.inside.runs.items,
    record { core = c.self.invariant.core; inside = rw (← c.self.view_is) at c.requires.owner; limited = refl },
  ),
)

pub beside-beside-requires : goal.beside-beside-requires
beside-beside-requires g c =
    let owner = rw (← c.self.view_is) at c.requires.owner in let n = c.self.invariant.wired.beside_are.count in omega arith

module _ (g : Over) (c : After-time_many-timed g) where
  inside : c.args.owner < length c.self.inside.plan.design.modules
  inside = rw (← c.self.view_is) at c.requires.owner

  held : IsHeldOf c.self.inside.plan c.self.inside.engine c.self.inside.runs.items c.args.owner
      c.self.inside.plan.cycles
  held = record { core = c.self.invariant.core; inside = inside; limited = refl }

pub invariant_of-self : goal.invariant_of-self
invariant_of-self g c =
    let at = (goal.at.invariant_of-self g c).After-time_many-timed in
    let p = c.self.inside.plan in
    let runs = c.self.inside.runs.items in
    let timed = c.time_many-timed in
    let woken = c.wake_timed.ensures in
    let asked = c.unask.ensures in
    stretched.stored_then
    (stretched.stored_after c.self.invariant c.args.owner (inside g at) timed.new.engine (timed.ensures.held p runs (held g at)).core
    c.args.steps.now timed.new.steps timed.result.answers timed.result.visit (timed.ensures.leads p runs (held g at))
    c.wake_timed.new.due woken.none (rw c.beside-beside.ensures at woken.asking) (rw c.beside-beside.ensures at woken.running)
    woken.no_answer woken.unlisted) c.args.owner (inside g at) timed.result.idle (λ e. timed.ensures.idle e p runs (held g at))
    c.unask.new.due asked.none asked.asking asked.running asked.unlisted

pub returns-clause-leads : goal.returns-clause-leads
returns-clause-leads g c =
    let at = (goal.at.returns-clause-leads g c).After-time_many-timed in
    rw (← c.self.view_is) (c.time_many-timed.ensures.leads c.self.inside.plan c.self.inside.runs.items (held g at))
