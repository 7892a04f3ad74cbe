use Rattle.engine_report.proofs.Walking.{walk_begins, walk_passes, walk_skips, walk_goes_on, walk_ends}
use Rattle.engine_report.proofs.Leading.{walk_leads}
use Rattle.engine_report.proofs.walk_laws.walks_are_histories.Goals as goal

pub returns-clause-begins : goal.returns-clause-begins
returns-clause-begins c = walk_begins

pub returns-clause-passes : goal.returns-clause-passes
returns-clause-passes c = walk_passes

pub returns-clause-skips : goal.returns-clause-skips
returns-clause-skips c = walk_skips

pub returns-clause-goes_on : goal.returns-clause-goes_on
returns-clause-goes_on c = walk_goes_on

pub returns-clause-ends : goal.returns-clause-ends
returns-clause-ends c = walk_ends

pub returns-clause-leads : goal.returns-clause-leads
returns-clause-leads c = walk_leads
