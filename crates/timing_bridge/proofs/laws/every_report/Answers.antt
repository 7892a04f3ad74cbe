use Rattle.timing_bridge.proofs.{Orders.reached_agrees, Reports.every_report}
use Rattle.timing_bridge.proofs.laws.every_report.Goals as goal

pub returns-clause-reached : goal.returns-clause-reached
returns-clause-reached c = λ p h actions x s f ss o. every_report p h x (reached_agrees p h p.cycles actions x s) f ss o

pub returns-clause-agreed : goal.returns-clause-agreed
returns-clause-agreed c = every_report
