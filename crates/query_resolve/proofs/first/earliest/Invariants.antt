use Rattle.query_resolve.proofs.Earlier.{Found}
use Rattle.query_resolve.proofs.first.earliest.Given as goal

-- the first of the least among the candidates so far
abbrev pub invariant-loop-owner : goal.invariant-loop-owner
invariant-loop-owner l = Found l.candidates l.owner l.first
