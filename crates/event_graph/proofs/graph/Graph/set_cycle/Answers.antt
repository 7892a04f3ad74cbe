use Rattle.std.proofs.{Common.◌<◌, Common.length, lemmas.List.length-set, lemmas.List.length-map}
use Rattle.event_graph.specs.{Lane, no_lane, lane_with_cycle, RoomedLane}
use Rattle.flow_word.proofs.Changed.{shown_set, shown_kept}
use Rattle.event_graph.proofs.Growth.{all_sound}
use Rattle.event_graph.proofs.graph.Graph.set_cycle.Goals as goal

pub invariant_of-self : goal.invariant_of-self
invariant_of-self g c = (
  all_sound _ c.args.owner c.set_cycle.new.self c.self.invariant.0 c.set_cycle.ensures.sound,
  rw length-set c.self.invariant.1,
)

pub returns-clause-lanes : goal.returns-clause-lanes
returns-clause-lanes g c =
    let there : c.args.owner < length c.self.inside.lanes.items = rw (← c.self.view_is, length-map) at c.requires.owner in
    rw (← c.self.view_is) (shown_set (λ (l : RoomedLane). l.lane) (λ (l : Lane). lane_with_cycle l c.args.cycle) c.self.inside.lanes.items
    c.args.owner c.index_mut.result.now c.set_cycle.new.self no_lane there c.index_mut.ensures.value c.set_cycle.ensures.lane)

pub returns-clause-kept : goal.returns-clause-kept
returns-clause-kept g c =
    let there : c.args.owner < length c.self.inside.lanes.items = rw (← c.self.view_is, length-map) at c.requires.owner in
    rw (← c.self.view_is) (shown_kept (λ (l : RoomedLane). l.room) _ c.args.owner c.index_mut.result.now c.set_cycle.new.self there
    c.index_mut.ensures.value c.set_cycle.ensures.kept)

pub returns-clause-sound : goal.returns-clause-sound
returns-clause-sound g c = (invariant_of-self g c).0
