use Rattle.std.proofs.{Common.arith, Common.◌+◌, Common.◌-◌, Common.length, lemmas.Grind.common_steps}
use Rattle.sim_io.proofs.Pieces.{loses_more}
use Rattle.sim_io.proofs.reading.read_all.Goals as goal

pub returns-in_err-take_more-clause-no_memory : goal.returns-in_err-take_more-clause-no_memory
returns-in_err-take_more-clause-no_memory g c e =
    loses_more _ _ _ c.loop-all.all (c.args.limit + 1 - length c.loop-all.all) _ c.loop-all.invariant.bytes (grind (arith, common_steps, e))
    (grind (arith, common_steps))
