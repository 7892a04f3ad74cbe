use Rattle.std.specs.Prelude.{ℕ}
use Rattle.path_text.specs.{Plan, HasSpans, IsLastMove}
use Rattle.path_text.proofs.walk.last_move.Given as goal

abbrev pub invariant-loop-owner : goal.invariant-loop-owner
invariant-loop-owner l = (p : Plan) (end : ℕ) → HasSpans p end l.spans → IsLastMove p end l.owner l.last
