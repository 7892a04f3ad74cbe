use Rattle.flow_design.proofs.Rings.{kept_newest}
use Rattle.flow_design.proofs.temps.LiveTemps.keep_newest.Goals as goal

pub returns-then-live-self : goal.returns-then-live-self
returns-then-live-self c =
    let t = c.self.inside in
    kept_newest t.rows c.args.self.now t.first t.count c.args.live c.len.result c.slot-self-inside.result c.self.invariant.0
    c.self.invariant.1 c.if-live-self.true c.len.ensures c.slot-self-inside.ensures c.self.view_is
