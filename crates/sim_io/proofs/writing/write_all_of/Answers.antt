use Rattle.std.proofs.{Common.arith, lemmas.Grind.common_steps}
use Rattle.sim_io.proofs.Pieces.{appends_more}
use Rattle.sim_io.proofs.writing.write_all_of.Goals as goal

pub loop-at-preserved : goal.loop-at-preserved
loop-at-preserved g c = record {
  bytes = appends_more _ _ _ c.args.text.now c.loop-at.at c.in-Ok.count c.loop-at.invariant.bytes c.in-Ok.ensures.bytes;
  within = grind (arith, common_steps);
  faults = grind (arith, common_steps);
  unfinished = grind (arith, common_steps);
  nothing = grind (arith, common_steps);
}
