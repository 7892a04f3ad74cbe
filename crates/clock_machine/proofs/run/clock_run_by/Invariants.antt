use Rattle.clock_machine.specs.{NoneBefore, HasCome}
use Rattle.clock_machine.proofs.run.clock_run_by.Given as goal

abbrev pub invariant-loop-clock : goal.invariant-loop-clock
invariant-loop-clock l = record {
  come : HasCome l.plan l.codes l.keep l.clock l.run;
  none : NoneBefore l.plan l.clock;
}
