use Rattle.std.proofs.Common.{◌≡◌, take, map}
use Rattle.session_plan.specs.{depth_in}
use Rattle.session_plan.proofs.channels.depths_of.Given as goal

abbrev pub invariant-loop-channel : goal.invariant-loop-channel
invariant-loop-channel l = l.depths ≡ map (λ c. depth_in c.kind) (take l.channel-index l.channels)
