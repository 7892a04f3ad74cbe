-- The program's exit status.
use Rattle.std.specs.Prelude.{ℕ}
use Rattle.whole_answer.specs.{declared.ending.Ending.Ending, declared.status.Status.Status}
use Rattle.whole_answer.specs.declared.status.Status.TheVariants.{Done, Words, Text, Deadlock, Cycles, Ops, ReadFault, WriteFault, Memory}
use Rattle.whole_answer.specs.declared.ending.Ending.TheVariants as ending

-- the status of an answer that was written whole
abbrev pub status_of : Ending → Status
status_of ending.Done = Done
status_of ending.Words = Words
status_of ending.Text = Text
status_of ending.Deadlock = Deadlock
status_of ending.Cycles = Cycles
status_of ending.Ops = Ops

abbrev pub exit_number : Status → ℕ
exit_number Done = 0
exit_number Words = 1
exit_number Text = 2
exit_number Deadlock = 3
exit_number Cycles = 4
exit_number Ops = 5
exit_number ReadFault = 6
exit_number WriteFault = 7
exit_number Memory = 8
