use Rattle.std.proofs.Common.{length}
use Rattle.flow_text.proofs.FormLaws.{Reading}
use Rattle.flow_text.proofs.inputs.words_in.Given as goal

abbrev pub invariant-loop-rest : goal.invariant-loop-rest
invariant-loop-rest l = Reading (λ t. t.now) l.tokens l.words l.rest

abbrev pub decreases-loop-rest : goal.decreases-loop-rest
decreases-loop-rest l = length l.rest
