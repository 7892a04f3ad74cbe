use Rattle.module_interp.proofs.run.ModuleRun.advance.Goals as goal

pub returns-in_err-mark-clause-stands : goal.returns-in_err-mark-clause-stands
returns-in_err-mark-clause-stands c p i o s = c.give.ensures.stands p i o (c.come.ensures.stands p i o s)

pub returns-clause-stands : goal.returns-clause-stands
returns-clause-stands c p i o s = c.give.ensures.stands p i o (c.come.ensures.stands p i o s)

pub returns-clause-mark : goal.returns-clause-mark
returns-clause-mark c p i o s = c.in_ok-mark.ensures.mark p i o (c.come.ensures.stands p i o s)

pub returns-clause-sound : goal.returns-clause-sound
returns-clause-sound c p i o s = c.in_ok-mark.ensures.sound p i o (c.come.ensures.stands p i o s)
