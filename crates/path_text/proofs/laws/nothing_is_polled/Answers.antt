use Rattle.path_text.proofs.Told.{quiet_text}
use Rattle.path_text.proofs.laws.nothing_is_polled.Goals as goal

pub returns : goal.returns
returns c = quiet_text
