use Rattle.std.proofs.{Common.◌<◌, Common.length, Math.Seq.map-set_same, lemmas.Result.on_ok_weaker}
use Rattle.std.proofs.lemmas.List.{length-set, length-map}
use Rattle.event_graph.specs.{RoomedLane}
use Rattle.flow_word.proofs.Changed.{shown_new, shown_kept}
use Rattle.event_graph.proofs.Growth.{all_sound}
use Rattle.event_graph.proofs.graph.Graph.reserve.Goals as goal

pub invariant_of-self : goal.invariant_of-self
invariant_of-self c = (
  all_sound _ c.args.owner c.reserve.new.self c.self.invariant.0 c.reserve.ensures.sound,
  rw length-set c.self.invariant.1,
)

pub returns-clause-lanes : goal.returns-clause-lanes
returns-clause-lanes c =
    rw (← c.self.view_is) (map-set_same (λ (l : RoomedLane). l.lane) c.self.inside.lanes.items c.args.owner c.reserve.new.self
    c.index_mut.result.now (rw (← c.index_mut.ensures.value) c.reserve.ensures.lane))

pub returns-clause-room : goal.returns-clause-room
returns-clause-room c =
    let there : c.args.owner < length c.self.inside.lanes.items = rw (← c.self.view_is, length-map) at c.requires in
    on_ok_weaker c.reserve.result
    (λ room. rw (shown_new (λ (l : RoomedLane). l.room) c.self.inside.lanes.items c.args.owner c.reserve.new.self there) room)
    c.reserve.ensures.room

pub returns-clause-kept : goal.returns-clause-kept
returns-clause-kept c =
    let there : c.args.owner < length c.self.inside.lanes.items = rw (← c.self.view_is, length-map) at c.requires in
    rw (← c.self.view_is) (shown_kept (λ (l : RoomedLane). l.room) _ c.args.owner c.index_mut.result.now c.reserve.new.self there
    c.index_mut.ensures.value c.reserve.ensures.kept)
