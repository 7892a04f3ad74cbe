use Rattle.std.proofs.Common.{subst}
use Rattle.sim_core.specs.{Guard, HasDriven}
use Rattle.sim_core.proofs.Rounds.{goes_verified}
use Rattle.sim_core.proofs.alone.finish.Goals as goal

pub returns-clause-done : goal.returns-clause-done
returns-clause-done g c = subst (λ (guard : Guard). HasDriven guard c.drive.new.self) (c.in_ok-drive.ensures.same c.requires.verified)
    c.in_ok-drive.ensures.ended

pub returns-clause-verified : goal.returns-clause-verified
returns-clause-verified g c =
    goes_verified c.args.core.now c.drive.new.self _ _ c.agrees.ensures.agreed c.agrees.ensures.fits c.drive.ensures.goes
    c.requires.verified
