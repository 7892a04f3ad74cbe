use Rattle.engine_view.specs.Held.{Held}
use Rattle.sim_core.specs.{held_in, in_lane}
use Rattle.sim_core.proofs.AccessLogs as log
use Rattle.sim_core.proofs.machine.Core.log_step.Goals as goal

pub log_accesses-requires : goal.log_accesses-requires
log_accesses-requires c =
    let k = c.self.invariant.core in
    let h : Held = held_in c.self.inside.engine in
    record {
      known = rw c.new-known.ensures.values (log.step_inside c.self.inside.plan h k.sound k.agreed c.args.key.now
          (rw (← c.self.view_is) at c.requires) (in_lane c.look-step.result) c.look-step.ensures.step);
      few = c.look-step.ensures.sound.accesses;
    }

pub returns : goal.returns
returns c =
    let k = c.self.invariant.core in
    let h : Held = held_in c.self.inside.engine in
    let same = log.logged_is c.self.inside.plan h k.sound k.agreed c.args.key.now (rw (← c.self.view_is) at c.requires)
    (in_lane c.look-step.result) c.look-step.ensures.step in
    rw (← c.self.view_is) (rw (c.new-known.ensures.outcomes, c.new-known.ensures.values, c.outcomes.ensures, same)
    at c.log_accesses.ensures)
