use Rattle.lockstep_defs.proofs.Resting.{fits_opened, fits_move, quiet_goes, quiet_rests, own_goes}
use Rattle.lockstep_defs.proofs.laws.quiet_clocks_end.Goals as goal

pub returns-clause-opened : goal.returns-clause-opened
returns-clause-opened c = fits_opened

pub returns-clause-moved : goal.returns-clause-moved
returns-clause-moved c = fits_move

pub returns-clause-end : goal.returns-clause-end
returns-clause-end c = λ p h i s f. record { goes_before = quiet_goes p i s; rests_then = quiet_rests p h i s f }

pub returns-clause-own : goal.returns-clause-own
returns-clause-own c = own_goes
