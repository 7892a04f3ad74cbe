use Rattle.module_code.proofs.Acting.{load_action}
use Rattle.module_code.proofs.action.load_of.Goals as goal

pub returns : goal.returns
returns c channels =
    load_action channels c.args.of.now c.args.block.now c.target_of-target.result c.args.target c.args.memory
    c.in_ok-operand_of.field-0 _ c.target_of-target.ensures c.in_ok-operand_of.ensures
