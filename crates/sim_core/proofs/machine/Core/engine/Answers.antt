use Rattle.sim_core.proofs.machine.Core.engine.Goals as goal

pub returns-clause-sound : goal.returns-clause-sound
returns-clause-sound c = rw (← c.self.view_is) c.self.invariant.core.sound
