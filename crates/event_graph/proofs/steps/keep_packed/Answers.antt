use Rattle.std.proofs.Common.{subst, sym, arith}
use Rattle.event_graph.specs.{Step, Head, packed, store_with, head_words, count_words, IsStepKept}
use Rattle.event_graph.proofs.Packing.{joined, words_few, packed_kept}
use Rattle.event_graph.proofs.steps.keep_packed.Goals as goal

pub returns-clause-kept : goal.returns-clause-kept
returns-clause-kept c = λ others.
    let step : Step = record { gap = c.args.gap; accesses = c.args.accesses.now; first_query = c.args.first_query } in
    let shape = c.number_of-shape in
    let added = joined c.args.words.now.items (head_words shape.result c.args.gap) (count_words c.args.first_query)
    (packed c.args.accesses.now) c.push_head-head.new.words.items c.push_count.new.words.items c.push_accesses.new.words.items
    c.push_head-head.ensures.items c.push_count.ensures.items c.push_accesses.ensures.items in
    let old = store_with c.args.words.now c.args.shapes.now others in
    let new = store_with c.push_accesses.new.words shape.new.self others in
    let number = shape.ensures.number in
    subst (λ (head : Head). IsStepKept old new step head) (sym c.push_head-head.ensures.head)
    (packed_kept old c.push_accesses.new.words.items shape.new.self.items shape.result c.args.gap c.args.first_query c.args.accesses.now
    number.there number.is number.kept added)

pub returns-clause-room : goal.returns-clause-room
returns-clause-room c = λ left can.
    let shape = c.number_of-shape in
    let added = joined c.args.words.now.items (head_words shape.result c.args.gap) (count_words c.args.first_query)
    (packed c.args.accesses.now) c.push_head-head.new.words.items c.push_count.new.words.items c.push_accesses.new.words.items
    c.push_head-head.ensures.items c.push_count.ensures.items c.push_accesses.ensures.items in
    let few = words_few c.args.words.now.items c.push_accesses.new.words.items shape.result c.args.gap c.args.first_query
    c.args.accesses.now added in
    record {
      words_few = let w = can.words_few in omega (arith, few, w);
      forms_few = let f = can.forms_few in omega (arith, f, shape.ensures.number.more);
      words_room = let r = can.words_room in omega (arith, r);
      forms_room = let r = can.forms_room in omega (arith, r, shape.ensures.room);
    }
