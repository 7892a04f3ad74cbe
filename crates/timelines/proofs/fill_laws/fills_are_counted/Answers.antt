use Rattle.timelines.proofs.{FillCounts.counted, FillCounts.within_depth, Ending.last_within}
use Rattle.timelines.proofs.fill_laws.fills_are_counted.Goals as goal

pub returns-clause-counted : goal.returns-clause-counted
returns-clause-counted c = counted

pub returns-clause-within : goal.returns-clause-within
returns-clause-within c = within_depth

pub returns-clause-last : goal.returns-clause-last
returns-clause-last c = last_within
