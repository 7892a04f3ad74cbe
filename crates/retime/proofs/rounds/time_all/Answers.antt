use Rattle.std.proofs.Common.{refl, ◌∙◌}
use Rattle.retime.proofs.Going.{none_turned, turned, idle_on, all_idle}
use Rattle.retime.proofs.rounds.time_all.Goals as goal

pub loop-at-init : goal.loop-at-init
loop-at-init g c = record {
  turned = none_turned c.args.limit c.args.engine.now c.args.steps.now c.requires.core;
  counted = c.new-cursor.ensures.count ∙ c.modules.ensures.count;
  idle = λ m passed. absurd (c.new-cursor.ensures.idle m passed);
  hints = refl;
}

pub loop-at-smaller-in-Assigned : goal.loop-at-smaller-in-Assigned
loop-at-smaller-in-Assigned g c = c.acted.ensures.less _ _ (c.in-Assigned.ensures.less refl)

pub loop-at-preserved-in-Assigned : goal.loop-at-preserved-in-Assigned
loop-at-preserved-in-Assigned g c = record {
  turned = turned _ _ c.time_first.result c.in-Some.ensures.next c.loop-at.invariant.counted c.loop-at.invariant.turned
      c.time_first.ensures.done c.time_first.ensures.room c.time_first.ensures.lanes c.time_first.ensures.kinds
      c.time_first.ensures.ticks;
  counted = c.acted.ensures.count ∙ c.loop-at.invariant.counted;
  idle = λ m passed. absurd (c.acted.ensures.idle m passed);
  hints = c.hint_beside.ensures ∙ c.loop-at.invariant.hints;
}

pub loop-at-preserved-in-Answered : goal.loop-at-preserved-in-Answered
loop-at-preserved-in-Answered g c = record {
  turned = turned _ _ c.time_first.result c.in-Some.ensures.next c.loop-at.invariant.counted c.loop-at.invariant.turned
      c.time_first.ensures.done c.time_first.ensures.room c.time_first.ensures.lanes c.time_first.ensures.kinds
      c.time_first.ensures.ticks;
  counted = c.acted-in-Answered.ensures.count ∙ c.loop-at.invariant.counted;
  idle = λ m passed. absurd (c.acted-in-Answered.ensures.idle m passed);
  hints = c.loop-at.invariant.hints;
}

pub loop-at-preserved : goal.loop-at-preserved
loop-at-preserved g c = record {
  turned = turned _ _ c.time_first.result c.in-Some.ensures.next c.loop-at.invariant.counted c.loop-at.invariant.turned
      c.time_first.ensures.done c.time_first.ensures.room c.time_first.ensures.lanes c.time_first.ensures.kinds
      c.time_first.ensures.ticks;
  counted = c.passed_by.ensures.count ∙ c.loop-at.invariant.counted;
  idle = idle_on c.args.limit c.in-Some.at c.loop-at.engine c.time_first.new.self c.loop-at.cursor c.passed_by.new.self
      c.in-Some.ensures.next c.in-Nothing.ensures.done c.passed_by.ensures.idle c.loop-at.invariant.idle;
  hints = c.passed_by.ensures.hints ∙ c.loop-at.invariant.hints;
}

pub returns-clause-ended : goal.returns-clause-ended
returns-clause-ended g c =
    all_idle c.loop-at.cursor c.loop-at.invariant.turned c.loop-at.invariant.counted (c.in_default.ensures.all refl)
    c.loop-at.invariant.idle
