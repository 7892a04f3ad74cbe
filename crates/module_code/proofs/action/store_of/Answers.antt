use Rattle.module_code.proofs.Acting.{store_action}
use Rattle.module_code.proofs.action.store_of.Goals as goal

pub returns : goal.returns
returns c channels block =
    store_action channels c.args.of.now block c.args.memory c.memory_mask-mask.result c.in_ok-address.address c.in_ok-value.value _ _
    (rw c.as_slice.ensures at c.memory_mask-mask.ensures) c.in_ok-address.ensures c.in_ok-value.ensures
