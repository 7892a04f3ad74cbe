use Rattle.std.proofs.Common.{take}
use Rattle.path_text.specs.{AreMissed}
use Rattle.path_text.proofs.Found.{AreFindsOf}
use Rattle.path_text.proofs.finds.finds.Given as goal

abbrev pub invariant-loop-access : goal.invariant-loop-access
invariant-loop-access l = record {
  missed : AreMissed l.channels (take l.access-index l.log) l.missed;
  found : AreFindsOf l.plan l.log l.access-index l.finds;
}
