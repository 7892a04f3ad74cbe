use Rattle.std.proofs.Common.{◌≡◌, ◌≤◌}
use Rattle.whole_answer.specs.{AreCodes, IsGoing, told_of}
use Rattle.whole_answer.proofs.job.clock_job.Given as goal

abbrev pub invariant-loop-edit : goal.invariant-loop-edit
invariant-loop-edit g l = record {
  going : IsGoing l.events l.fn.plan l.edits l.edit-index l.plan (told_of l.ending l.count) (g.K.Sink.held l.fn.sink)
      (g.K.Sink.held l.sink);
  number : l.number ≡ l.edit-index;
  codes : AreCodes l.plan l.codes;
  faults : g.K.Sink.faults l.fn.sink ≤ g.K.Sink.faults l.sink;
}
