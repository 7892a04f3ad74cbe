use Rattle.timing_bridge.proofs.Ordinals.{ordinals}
use Rattle.timing_bridge.proofs.laws.ordinals_are_counts.Goals as goal

pub returns : goal.returns
returns c = ordinals
