use Rattle.std.proofs.Common.{◌≡◌, replicate}
use Rattle.stall_text.specs.{unpolled}
use Rattle.stall_text.proofs.polls.no_pollings.Given as goal

abbrev pub invariant-loop-at : goal.invariant-loop-at
invariant-loop-at l = l.pollings ≡ replicate l._at unpolled
