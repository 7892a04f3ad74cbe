use Rattle.module_interp.proofs.Gaps.{short_gap, short_run, least_gap}
use Rattle.module_interp.proofs.laws.gaps_are_short.Goals as goal

pub returns-clause-most : goal.returns-clause-most
returns-clause-most c = short_gap

pub returns-clause-all : goal.returns-clause-all
returns-clause-all c = short_run

pub returns-clause-after : goal.returns-clause-after
returns-clause-after c = λ p i o r s. s.after

pub returns-clause-least : goal.returns-clause-least
returns-clause-least c = least_gap
