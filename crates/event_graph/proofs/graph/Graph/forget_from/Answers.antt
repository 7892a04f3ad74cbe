use Rattle.std.proofs.Common.{◌≡◌, refl, length, arith}
use Rattle.event_graph.proofs.{Forgetting.forgetting_more, Forgetting.forgotten, Forgetting.given_back, Kept.cycle_kept}
use Rattle.event_graph.specs.{lanes_of}
use Rattle.event_graph.proofs.graph.Graph.forget_from.Goals as goal

pub loop-lane-init : goal.loop-lane-init
loop-lane-init c = record { lanes = refl; rooms = λ k. omega arith; sound = rw c.deref_mut-lane-items.ensures.value c.self.invariant.0 }

pub loop-lane-preserved : goal.loop-lane-preserved
loop-lane-preserved c =
    forgetting_more c.args.cycle c.loop-lane.lane-index _ _ c.lane-item.result c.forget_from.new.self c.loop-lane.invariant (omega arith)
    c.loop-lane.auto.lane-items
    c.lane-item.is (rw (← c.lane-item.is) at c.forget_from.ensures.lane) (rw (← c.lane-item.is) at c.forget_from.ensures.kept)
    c.forget_from.ensures.sound

pub invariant_of-self : goal.invariant_of-self
invariant_of-self c =
    let same : length c.loop-lane.lane-items ≡ length c.self.inside.lanes.items = rw (← c.deref_mut-lane-items.ensures.value)
    c.loop-lane.auto.lane-items in
    let back = given_back c.self.inside.lanes.items c.loop-lane.lane-items c.self.inside.lanes.len (omega arith) same in
    (rw back c.loop-lane.invariant.sound, rw (back, same) c.self.invariant.1)

pub returns-clause-lanes : goal.returns-clause-lanes
returns-clause-lanes c =
    let same : length c.loop-lane.lane-items ≡ length c.self.inside.lanes.items = rw (← c.deref_mut-lane-items.ensures.value)
    c.loop-lane.auto.lane-items in
    let back = given_back c.self.inside.lanes.items c.loop-lane.lane-items c.self.inside.lanes.len (omega arith) same in
    let all = forgotten c.args.cycle c.loop-lane.lane-index _ c.loop-lane.lane-items c.loop-lane.invariant c.loop-lane-test.false in
    rw (← c.self.view_is, back) (rw c.deref_mut-lane-items.ensures.value at all)

pub returns-clause-kept : goal.returns-clause-kept
returns-clause-kept c =
    let same : length c.loop-lane.lane-items ≡ length c.self.inside.lanes.items = rw (← c.deref_mut-lane-items.ensures.value)
    c.loop-lane.auto.lane-items in
    let back = given_back c.self.inside.lanes.items c.loop-lane.lane-items c.self.inside.lanes.len (omega arith) same in
    rw (← c.self.view_is, back) (rw c.deref_mut-lane-items.ensures.value at c.loop-lane.invariant.rooms)

pub returns-clause-each : goal.returns-clause-each
returns-clause-each c =
    rw (returns-clause-lanes c, ← c.self.view_is) (cycle_kept c.args.cycle (lanes_of c.self.inside.lanes.items) c.self.invariant.0)

pub returns-clause-sound : goal.returns-clause-sound
returns-clause-sound c = (invariant_of-self c).0
