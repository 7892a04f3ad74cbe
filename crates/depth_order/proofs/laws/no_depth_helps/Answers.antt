use Rattle.depth_order.proofs.Chained.{none_ends_before, none_ends_by}
use Rattle.depth_order.proofs.laws.no_depth_helps.Goals as goal

pub returns-clause-chained : goal.returns-clause-chained
returns-clause-chained c = none_ends_before

pub returns-clause-earliest : goal.returns-clause-earliest
returns-clause-earliest c = none_ends_by
