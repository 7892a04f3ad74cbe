use Rattle.std.proofs.Common.{sym}
use Rattle.indexmap.specs.IndexSet.{keys}
use Rattle.flow_check.specs.{slot}
use Rattle.flow_check.proofs.Slots.{slot_more}
use Rattle.flow_check.proofs.ports.take_slot.Goals as goal

pub returns-in_ok-new-in-Some-clause-taken : goal.returns-in_ok-new-in-Some-clause-taken
returns-in_ok-new-in-Some-clause-taken c =
    slot_more (keys c.args.slots.now) (keys c.insert_full.new.self) c.in-Some.own (slot c.args.kind c.args.timed.now)
    (sym c.in-Some.ensures) c.in_ok-new-in-Some.ensures.updates.0
