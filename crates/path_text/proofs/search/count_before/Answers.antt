use Rattle.std.proofs.Common.{arith}
use Rattle.path_text.proofs.Searched.{count_is}
use Rattle.path_text.proofs.search.count_before.Goals as goal

pub returns : goal.returns
returns c =
    let x = c.loop-low.invariant in
    count_is c.args.clocks.now c.requires c.loop-low.high c.args.clock x.within
    (λ k l. x.below k (omega (arith, c.loop-low-test.false))) x.above
