use Rattle.run_ahead.proofs.Finding.{IsFinding}
use Rattle.run_ahead.proofs.replies.find_replies.Given as goal

abbrev pub invariant-loop-access : goal.invariant-loop-access
invariant-loop-access g l =
    IsFinding l.outcomes (g.V.Values.value l.values) l.told l.accesses l.next l.access-index
