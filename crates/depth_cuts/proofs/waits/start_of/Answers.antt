use Rattle.std.proofs.Common.{refl}
use Rattle.depth_cuts.specs.{in_lane}
use Rattle.depth_cuts.proofs.Accesses.{of_table}
use Rattle.depth_cuts.proofs.waits.start_of.Goals as goal

pub latest_of-requires : goal.latest_of-requires
latest_of-requires c =
    of_table c.args.engine.now.graph.lanes c.args.engine.now.fifos.channels c.args.place (in_lane c.look-step.result) _ c.requires.accesses
    (c.is_timed.ensures.step c.if-not-is_timed.false) c.look-step.ensures.step refl
