use Rattle.std.proofs.Common.{arith}
use Rattle.retime.proofs.Cutting.{sound_lanes_of}
use Rattle.cycle_changes.proofs.Counting.{below_within}
use Rattle.cycle_changes.proofs.changed.retime_changes.Goals as goal

pub returns-in-None-clause-few : goal.returns-in-None-clause-few
returns-in-None-clause-few g c =
    let few = below_within c.args.from c.args.engine.now.graph.lanes (sound_lanes_of c.args.engine.now c.requires.core) in
    let same = c.try_changes.ensures.same in
    omega arith
