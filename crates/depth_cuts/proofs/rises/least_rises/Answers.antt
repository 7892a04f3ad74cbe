use Rattle.depth_cuts.proofs.Apart.{still_reached}
use Rattle.depth_cuts.proofs.rises.least_rises.Goals as goal

pub returns : goal.returns
returns c = still_reached c.args.demands.now c.loop-place.used c.args.at.now.depths c.loop-place.rises c.loop-place.invariant.reached
