use Rattle.std.proofs.Common.{arith}
use Rattle.event_timing.proofs.{Answering.answer_marks, Assigning.assign_marks, Editing.edit_marks, Marking.all_marks}
use Rattle.event_timing.proofs.Running.{run_marks, newest_own}
use Rattle.event_timing.proofs.laws.marks_stay.Goals as goal

pub returns-clause-run : goal.returns-clause-run
returns-clause-run g c = λ d x b m r. run_marks d x b m r

pub returns-clause-assign : goal.returns-clause-assign
returns-clause-assign g c = λ d x b m k. assign_marks d x m k b

pub returns-clause-answer : goal.returns-clause-answer
returns-clause-answer g c = λ d i x b m k l s. answer_marks d i x b m k l s

pub returns-clause-edit : goal.returns-clause-edit
returns-clause-edit g c = λ d x b fifo depth t. edit_marks d x fifo depth t b

pub returns-clause-newest : goal.returns-clause-newest
returns-clause-newest g c = λ d x b m. newest_own d x b m (x.emitted m) (omega arith)

pub returns-clause-actions : goal.returns-clause-actions
returns-clause-actions g c = λ d i limit x b actions z s. all_marks d i limit x b actions z s
