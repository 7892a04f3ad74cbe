use Rattle.sim_core.proofs.OwnMarks.{own_run_told}
use Rattle.sim_core.proofs.laws.steps_are_own_marks.Goals as goal

pub returns : goal.returns
returns c = let core = c.agrees.ensures in λ i inside. own_run_told c.args.core.now core.fits core.sound core.agreed i inside
