use Rattle.module_code.proofs.Acting.{write_action}
use Rattle.module_code.proofs.action.write_of.Goals as goal

pub returns : goal.returns
returns c of block =
    write_action c.args.channels.now of block c.args.channel c.channel_mask-mask.result c.in_ok-operand_of.field-0 _
    c.channel_mask-mask.ensures c.in_ok-operand_of.ensures
