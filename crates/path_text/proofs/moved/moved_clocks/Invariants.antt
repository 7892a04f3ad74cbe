use Rattle.std.proofs.Common.{take}
use Rattle.path_text.specs.{AreMoved}
use Rattle.path_text.proofs.moved.moved_clocks.Given as goal

abbrev pub invariant-loop-access : goal.invariant-loop-access
invariant-loop-access l = AreMoved l.side l.channels (take l.access-index l.log) l.clocks
