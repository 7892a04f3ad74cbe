use Rattle.retime.proofs.Cutting.{numbered_after, as_many_logs}
use Rattle.retime.proofs.retimed.cut_back.Goals as goal

pub assume_rest-requires-clause-logs : goal.assume_rest-requires-clause-logs
assume_rest-requires-clause-logs c =
    as_many_logs c.args.engine.now c.forget_from.new.self.lanes c.args.clock c.forget_from.ensures.lanes c.requires.core

pub assume_rest-requires-clause-numbered : goal.assume_rest-requires-clause-numbered
assume_rest-requires-clause-numbered c =
    numbered_after c.args.engine.now c.forget_from.new.self.lanes c.args.clock c.forget_from.ensures.lanes c.requires.core
