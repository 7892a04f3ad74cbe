use Rattle.std.proofs.Common.{◌<◌, length, subst, sym}
use Rattle.std.specs.Prelude.{All}
use Rattle.block_schedule.specs.{Slot}
use Rattle.block_schedule.proofs.Due.{ops_inside}
use Rattle.block_schedule.proofs.schedule.Schedule.slots.Goals as goal

pub returns-clause-inside : goal.returns-clause-inside
returns-clause-inside c b is =
    subst (All (λ (t : Slot). t.op < length b.ops)) (sym c.as_slice.ensures.value) (ops_inside b c.args.self.now is)
