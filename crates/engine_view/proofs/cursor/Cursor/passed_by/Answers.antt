use Rattle.std.proofs.Common.{inr}
use Rattle.engine_view.proofs.cursor.Cursor.passed_by.Goals as goal

pub returns-then-not-jump-clause-idle : goal.returns-then-not-jump-clause-idle
returns-then-not-jump-clause-idle c = rw (c.jump.ensures.stays c.if-not-jump.true) at c.passed.ensures.idle

pub returns-else-not-jump-clause-idle : goal.returns-else-not-jump-clause-idle
returns-else-not-jump-clause-idle c = λ m passed. inr (c.jump.ensures.idle m passed)
