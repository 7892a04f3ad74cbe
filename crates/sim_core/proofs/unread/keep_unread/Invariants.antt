use Rattle.sim_core.specs.{popped_in}
use Rattle.sim_core.proofs.Leaving.{IsKeeping}
use Rattle.sim_core.proofs.unread.keep_unread.Given as goal

abbrev pub invariant-loop-place : goal.invariant-loop-place
invariant-loop-place l =
    IsKeeping l.initial.unread l.inlets.readers.now l.inlets.owner (popped_in l.run) l.initial.mail l.unread l.mail l.place
