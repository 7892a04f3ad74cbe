use Rattle.cycle_changes.proofs.RightChanges.{right_changes}
use Rattle.cycle_changes.proofs.laws.changes_are_right.Goals as goal

pub returns : goal.returns
returns c = λ s t edit limit seeds puts inside is_fifo changes d i k.
    right_changes s t edit limit seeds puts inside is_fifo changes d i k
