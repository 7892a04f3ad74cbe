use Rattle.std.proofs.{Common.◌<◌, Common.length, Math.Seq.map-set_same, lemmas.List.length-set, lemmas.List.length-map}
use Rattle.event_graph.specs.{Lane, no_lane, put_in, RoomedLane}
use Rattle.flow_word.proofs.Changed.{shown_set}
use Rattle.event_graph.proofs.Growth.{all_sound}
use Rattle.event_graph.proofs.graph.Graph.put.Goals as goal

pub invariant_of-self : goal.invariant_of-self
invariant_of-self g c = (
  all_sound _ c.args.place.module c.put.new.self c.self.invariant.0 c.put.ensures.sound,
  rw length-set c.self.invariant.1,
)

pub returns-clause-lanes : goal.returns-clause-lanes
returns-clause-lanes g c =
    let there : c.args.place.module < length c.self.inside.lanes.items = rw (← c.self.view_is, length-map) at c.requires.owner in
    rw (← c.self.view_is) (shown_set (λ (l : RoomedLane). l.lane) (λ (l : Lane). put_in l c.args.place.step c.args.cycle)
    c.self.inside.lanes.items c.args.place.module c.index_mut.result.now c.put.new.self no_lane there c.index_mut.ensures.value
    c.put.ensures.lane)

pub returns-clause-rooms : goal.returns-clause-rooms
returns-clause-rooms g c =
    rw (← c.self.view_is) (map-set_same (λ (l : RoomedLane). l.room) c.self.inside.lanes.items c.args.place.module c.put.new.self
    c.index_mut.result.now (rw (← c.index_mut.ensures.value) c.put.ensures.room))

pub returns-clause-sound : goal.returns-clause-sound
returns-clause-sound g c = (invariant_of-self g c).0
