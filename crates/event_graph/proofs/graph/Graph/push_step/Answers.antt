use Rattle.std.proofs.{Common.◌<◌, Common.length, Math.Seq.map-set_same, lemmas.List.length-set, lemmas.List.length-map}
use Rattle.std.proofs.lemmas.Result.{on_ok_weaker, on_err_weaker}
use Rattle.event_graph.specs.{Lane, no_lane, lane_with_step, new_step, RoomedLane}
use Rattle.flow_word.proofs.Changed.{shown_set, used_place}
use Rattle.event_graph.proofs.Growth.{all_sound}
use Rattle.event_graph.proofs.graph.Graph.push_step.Goals as goal

pub invariant_of-self : goal.invariant_of-self
invariant_of-self c = (
  all_sound _ c.args.owner c.push_step.new.self c.self.invariant.0 c.push_step.ensures.lane_sound,
  rw length-set c.self.invariant.1,
)

pub returns-clause-ok : goal.returns-clause-ok
returns-clause-ok c =
    let there : c.args.owner < length c.self.inside.lanes.items = rw (← c.self.view_is, length-map) at c.requires.owner in
    rw (← c.self.view_is) (on_ok_weaker c.push_step.result (λ more. shown_set (λ (l : RoomedLane). l.lane)
    (λ (l : Lane). lane_with_step l (new_step c.args.step)) c.self.inside.lanes.items c.args.owner c.index_mut.result.now
    c.push_step.new.self no_lane there c.index_mut.ensures.value more) c.push_step.ensures.ok)

pub returns-clause-err : goal.returns-clause-err
returns-clause-err c =
    rw (← c.self.view_is) (on_err_weaker c.push_step.result (λ same. map-set_same (λ (l : RoomedLane). l.lane) c.self.inside.lanes.items
    c.args.owner c.push_step.new.self c.index_mut.result.now (rw (← c.index_mut.ensures.value) same)) c.push_step.ensures.err)

pub returns-clause-rooms : goal.returns-clause-rooms
returns-clause-rooms c =
    rw (← c.self.view_is) (used_place (λ (l : RoomedLane). l.room) c.self.inside.lanes.items c.args.owner c.index_mut.result.now
    c.push_step.new.self (rw (← c.self.view_is, length-map) at c.requires.owner) c.index_mut.ensures.value c.push_step.ensures.room)

pub returns-clause-sound : goal.returns-clause-sound
returns-clause-sound c = (invariant_of-self c).0
