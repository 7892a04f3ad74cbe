use Rattle.timing_bridge.proofs.OwnRuns.{own_is, told_by_core}
use Rattle.timing_bridge.proofs.laws.own_runs_are_the_same.Goals as goal

pub returns-clause-same : goal.returns-clause-same
returns-clause-same c = own_is

pub returns-clause-told : goal.returns-clause-told
returns-clause-told c = told_by_core
