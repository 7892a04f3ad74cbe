use Rattle.std.proofs.Common.{arith, ◌≡◌, length, min}
use Rattle.core_tests.proofs.Counting.{others_over}
use Rattle.core_tests.proofs.ticks.count_others.Goals as goal

pub returns : goal.returns
returns c =
    let old = c.args.old.now in
    let new = c.args.new.now in
    let end : c.loop-k.k ≡ min (length old) (length new) = omega arith in
    let over = others_over c.loop-k.k old new end in
    omega (arith, over)
