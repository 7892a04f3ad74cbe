use Rattle.path_text.specs.{verdict, clock_of}
use Rattle.path_text.proofs.Followed.{IsWalk, left}
use Rattle.path_text.proofs.walk.find_path.Given as goal

abbrev pub invariant-loop-next : goal.invariant-loop-next
invariant-loop-next l = IsWalk l.plan l.log (clock_of (verdict l.plan)) l.links l.polls l.next

abbrev pub decreases-loop-next : goal.decreases-loop-next
decreases-loop-next l = left l.next
