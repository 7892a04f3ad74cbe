use Rattle.std.proofs.Common.{[], ◌∷◌, arith, length, ap, length-append}
use Rattle.event_graph.proofs.Packing.{opened_with, inside_with}
use Rattle.event_graph.specs.{new_step, store_with}
use Rattle.event_graph.proofs.steps.StepList.push.Goals as goal

pub returns-clause-ok : goal.returns-clause-ok
returns-clause-ok c =
    opened_with c.self.inside.heads.items c.push_reserved.new.self.items
    (store_with c.self.inside.words c.self.inside.shapes c.self.inside.others)
    (store_with c.keep-head.new.words c.keep-head.new.shapes c.keep-head.new.others)
    c.keep-head.result (new_step c.args.step) c.self.invariant.inside c.push_reserved.ensures.items
    c.keep-head.ensures.kept c.args.self.now.items (rw (← c.self.view_is) at c.in_ok-reserve.ensures.items)

pub invariant_of-self : goal.invariant_of-self
invariant_of-self c =
    let some = rw (← c.self.view_is) at c.in_ok-reserve.ensures.room in
    let more = ap length c.push_reserved.ensures.items in
    let one = length-append c.self.inside.heads.items (c.keep-head.result ∷ []) in
    record {
      inside = inside_with c.self.inside.heads.items c.push_reserved.new.self.items
          (store_with c.self.inside.words c.self.inside.shapes c.self.inside.others)
          (store_with c.keep-head.new.words c.keep-head.new.shapes c.keep-head.new.others)
          c.keep-head.result (new_step c.args.step) c.self.invariant.inside c.push_reserved.ensures.items
          c.keep-head.ensures.kept;
      packs = c.keep-head.ensures.room;
      others_few = omega arith;
      few = omega arith;
      heads_room = omega arith;
      others_room = omega arith;
    }
