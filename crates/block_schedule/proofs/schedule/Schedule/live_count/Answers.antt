use Rattle.std.proofs.{Common.arith, Math.Nat.div-le_self}
use Rattle.block_schedule.proofs.Live.{live_by_most, newest_alone}
use Rattle.block_schedule.proofs.schedule.Schedule.live_count.Goals as goal

pub overflow_add-result : goal.overflow_add-result
overflow_add-result c = omega (arith, div-le_self c.min-most.result c.args.self.now.interval)

pub returns-then-most-self : goal.returns-then-most-self
returns-then-most-self c b is_schedule =
    newest_alone b c.args.control.now c.min-most.result is_schedule.limits.some
    (omega (arith, is_schedule.same_len)) (omega (arith, is_schedule.same_len)) (omega (arith, is_schedule.same_interval))

pub returns-else-most-self : goal.returns-else-most-self
returns-else-most-self c b is_schedule =
    rw is_schedule.same_interval
    (live_by_most b c.args.control.now c.min-most.result is_schedule.limits.some
    (omega (arith, is_schedule.same_len)) (omega (arith, is_schedule.same_len)))
