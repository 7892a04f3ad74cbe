use Rattle.std.proofs.Common.{refl}
use Rattle.depth_cuts.specs.{in_lane}
use Rattle.depth_cuts.proofs.Accesses.{of_table}
use Rattle.depth_cuts.proofs.waits.cause_of.Goals as goal

pub cause_at-element-requires : goal.cause_at-element-requires
cause_at-element-requires c =
    of_table c.args.engine.now.graph.lanes c.args.engine.now.fifos.channels c.args.place (in_lane c.look-step.result) _ c.requires.accesses
    (c.is_timed.ensures.step c.if-not-is_timed.false) c.look-step.ensures.step refl

pub cause_at-requires : goal.cause_at-requires
cause_at-requires c =
    of_table c.args.engine.now.graph.lanes c.args.engine.now.fifos.channels c.args.place (in_lane c.look-step.result) _ c.requires.accesses
    (c.is_timed.ensures.step c.if-not-is_timed.false) c.look-step.ensures.step refl
