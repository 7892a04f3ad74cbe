use Rattle.std.proofs.Common.{◌≡◌, replicate}
use Rattle.path_text.specs.{unmissed}
use Rattle.path_text.proofs.finds.nothing_missed.Given as goal

abbrev pub invariant-loop-at : goal.invariant-loop-at
invariant-loop-at l = l.missed ≡ replicate l._at unmissed
