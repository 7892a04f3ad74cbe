use Rattle.module_code.proofs.Acting.{set_action, try_write_action}
use Rattle.module_code.proofs.action.action_of.Goals as goal

pub returns-in_ok-operand_of-in-Set : goal.returns-in_ok-operand_of-in-Set
returns-in_ok-operand_of-in-Set c =
    rw c.in-Set.is (set_action c.args.channels.now c.args.of.now c.args.block.now c.target_of-target.result c.in-Set.place
    c.in_ok-operand_of-in-Set.field-0 _ c.target_of-target.ensures c.in_ok-operand_of-in-Set.ensures)

pub returns-in-Load : goal.returns-in-Load
returns-in-Load c = rw c.in-Load.is (c.load_of.ensures c.args.channels.now)

pub returns-in-Store : goal.returns-in-Store
returns-in-Store c = rw c.in-Store.is (c.store_of.ensures c.args.channels.now c.args.block.now)

pub returns-in-Write : goal.returns-in-Write
returns-in-Write c = rw c.in-Write.is (c.write_of.ensures c.args.of.now c.args.block.now)

pub returns-in_ok-operand_of-in-TryWrite : goal.returns-in_ok-operand_of-in-TryWrite
returns-in_ok-operand_of-in-TryWrite c =
    rw c.in-TryWrite.is (try_write_action c.args.channels.now c.args.of.now c.args.block.now c.in-TryWrite.channel
    c.channel_mask-mask.result c.target_of-outcome.result c.in-TryWrite.outcome c.in_ok-operand_of-in-TryWrite.field-0 _
    c.channel_mask-mask.ensures c.target_of-outcome.ensures c.in_ok-operand_of-in-TryWrite.ensures)
