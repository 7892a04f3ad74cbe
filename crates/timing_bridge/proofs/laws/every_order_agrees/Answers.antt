use Rattle.timing_bridge.proofs.Orders.{reached_agrees}
use Rattle.timing_bridge.proofs.laws.every_order_agrees.Goals as goal

pub returns : goal.returns
returns c = reached_agrees
