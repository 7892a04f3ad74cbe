use Rattle.std.proofs.Common.{◌≡◌, [], replicate}
use Rattle.path_text.proofs.moved.no_clocks.Given as goal

abbrev pub invariant-loop-at : goal.invariant-loop-at
invariant-loop-at l = l.clocks ≡ replicate l._at []
