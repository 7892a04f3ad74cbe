use Rattle.std.proofs.lemmas.List.{take_all}
use Rattle.sim_core.proofs.Counting.{added_more, takers_more}
use Rattle.sim_core.proofs.taken.count_accesses.Goals as goal

pub loop-access-preserved : goal.loop-access-preserved
loop-access-preserved c =
    added_more c.loop-access.invariant c.in_ok-count_access.ensures
    (λ port. takers_more port.side port.channel c.args.accesses.now c.loop-access.access-index _ c.loop-access-test.true)

pub returns : goal.returns
returns c =
    let all = take_all c.loop-access.access-index c.args.accesses.now c.loop-access-test.false in
    rw all at c.loop-access.invariant
