use Rattle.std.proofs.{Common.nat_lt, Common.arith, lemmas.List.Sums.length-filter, lemmas.List.Sums.count_by-le-length}
use Rattle.cycle_changes.specs.{lane_at}
use Rattle.cycle_changes.proofs.changed.left_of.Goals as goal

pub overflow_sub-result : goal.overflow_sub-result
overflow_sub-result c =
    let cycles = (lane_at c.args.graph.now.lanes c.args.owner).cycles in
    let few = count_by-le-length (λ n. nat_lt n c.args.from) cycles in
    let same = length-filter (λ n. nat_lt n c.args.from) cycles in
    let prefix = c.len.ensures.sound.prefix in
    let count = c.count_below.ensures.count in
    omega (arith, same, few)

pub returns : goal.returns
returns c =
    let less = overflow_sub-result c in
    let count = c.count_below.ensures.count in
    omega arith
