use Rattle.std.proofs.Common.{◌≡◌, ◌≤◌, true}
use Rattle.whole_answer.specs.{IsGoing, told_of}
use Rattle.whole_answer.proofs.job.engine_job.Given as goal

abbrev pub invariant-loop-edit : goal.invariant-loop-edit
invariant-loop-edit g l = record {
  going : IsGoing l.events l.fn.plan l.edits l.edit-index l.session.plan (told_of l.ending l.session.count) (g.K.Sink.held l.fn.sink)
      (g.K.Sink.held l.sink);
  live : l.session.live ≡ true;
  number : l.number ≡ l.edit-index;
  faults : g.K.Sink.faults l.fn.sink ≤ g.K.Sink.faults l.sink;
}
