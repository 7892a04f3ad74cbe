use Rattle.sim_core.proofs.machine.Core.agrees.Goals as goal

pub returns-clause-agreed : goal.returns-clause-agreed
returns-clause-agreed c = rw (← c.self.view_is) c.self.invariant.core.agreed

pub returns-clause-sound : goal.returns-clause-sound
returns-clause-sound c = rw (← c.self.view_is) c.self.invariant.core.sound
