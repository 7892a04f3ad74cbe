use Rattle.std.proofs.Common.{◌≡◌, length}
use Rattle.retime.specs.{AreIdle, turns_left, left}
use Rattle.retime.proofs.Going.{HasTurned, IsIdleIn}
use Rattle.retime.proofs.rounds.time_all.Given as goal

abbrev pub invariant-loop-at : goal.invariant-loop-at
invariant-loop-at g l = record {
  turned : HasTurned l.limit l.initial.engine l.engine l.initial.steps l.steps;
  counted : l.cursor.count ≡ length l.initial.engine.graph.lanes;
  idle : AreIdle (IsIdleIn l.limit l.engine) l.cursor;
  hints : l.hints ≡ l.initial.hints;
}

abbrev pub decreases-loop-at : goal.decreases-loop-at
decreases-loop-at g l = turns_left (left l.engine) l.cursor
