use Rattle.std.proofs.Common.{◌≡◌, replicate}
use Rattle.stall_text.specs.{unasked}
use Rattle.stall_text.proofs.queries.no_queries.Given as goal

abbrev pub invariant-loop-at : goal.invariant-loop-at
invariant-loop-at l = l.queries ≡ replicate l._at unasked
