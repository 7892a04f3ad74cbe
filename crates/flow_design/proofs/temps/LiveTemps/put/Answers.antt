use Rattle.flow_design.proofs.Rings.{put_there}
use Rattle.flow_design.proofs.temps.LiveTemps.put.Goals as goal

pub returns-then-iteration-self : goal.returns-then-iteration-self
returns-then-iteration-self c =
    let t = c.self.inside in
    put_there t.rows c.as_mut_slice.result.now c.put_at.new.lists c.args.self.now t.first t.count c.args.iteration c.args.temp c.args.word
    c.len.result c.slot-place.result c.self.invariant.0 c.self.invariant.1 c.if-iteration-self.true c.len.ensures c.slot-place.ensures
    c.as_mut_slice.ensures.value c.put_at.ensures c.self.view_is
