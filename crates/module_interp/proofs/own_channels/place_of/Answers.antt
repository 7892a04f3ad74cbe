use Rattle.std.proofs.Common.{arith}
use Rattle.module_interp.proofs.Places.{halved, halved_after}
use Rattle.module_interp.proofs.own_channels.place_of.Goals as goal

pub loop-from-preserved-then-channels-middle : goal.loop-from-preserved-then-channels-middle
loop-from-preserved-then-channels-middle c =
    let i = c.loop-from.invariant in
    let test = c.loop-from-test.true in record {
      order = let l = i.order in omega arith;
      inside = i.inside;
      between = λ k l e. (
        halved c.args.channels.now c.requires.rise c.args.channel _ k (let a = i.inside in omega arith) c.if-channels-middle.true l e,
        (i.between k l e).1,
      );
    }

pub loop-from-preserved : goal.loop-from-preserved
loop-from-preserved c =
    let i = c.loop-from.invariant in
    let test = c.loop-from-test.true in record {
      order = omega arith;
      inside = let a = i.inside in omega arith;
      between = λ k l e. (
        (i.between k l e).0,
        halved_after c.args.channels.now c.requires.rise c.args.channel _ k (let a = i.inside in omega arith) c.if-channels-middle.false
            l e,
      );
    }
