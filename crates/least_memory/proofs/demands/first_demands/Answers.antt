use Rattle.least_memory.proofs.Shown.{one_more_floor}
use Rattle.least_memory.proofs.demands.first_demands.Goals as goal

pub loop-channel-preserved : goal.loop-channel-preserved
loop-channel-preserved c =
    let x = c.loop-channel.invariant in
    let next = one_more_floor c.args.core.now.plan c.args.clock c.loop-channel.floors c.push.new.self c.loop-channel.channel
    c.in_ok-floor_of.field-0 x.count x.each c.in_ok-floor_of.ensures c.in_ok-push.ensures.ok in
    record { count = next.0; each = next.1 }
