use Rattle.std.proofs.{Common.arith, Common.ap, Common.length, Common.length-append, lemmas.Grind.common_steps}
use Rattle.event_graph.specs.{new_step}
use Rattle.event_graph.proofs.Growth.{longer_sound}
use Rattle.event_graph.proofs.lane.RoomyLane.push_step.Goals as goal

pub invariant_of-self-2 : goal.invariant_of-self-2
invariant_of-self-2 c = (
  longer_sound _ (new_step c.args.step) _ _ c.self.invariant.0 c.requires.sound (rw (← c.self.view_is) at c.requires.apart)
      c.in_ok-push.ensures.ok c.reserve.ensures.items,
  let count = ap length c.in_ok-push.ensures.ok in grind (arith, common_steps, length-append),
  let count = ap length c.in_ok-push.ensures.ok in grind (arith, common_steps, length-append),
)

pub returns-clause-lane_sound : goal.returns-clause-lane_sound
returns-clause-lane_sound c =
    longer_sound _ (new_step c.args.step) _ _ c.self.invariant.0 c.requires.sound (rw (← c.self.view_is) at c.requires.apart)
    c.in_ok-push.ensures.ok c.reserve.ensures.items
