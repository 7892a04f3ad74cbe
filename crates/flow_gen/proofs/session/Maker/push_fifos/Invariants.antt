use Rattle.flow_gen.specs.{fifo_after}
use Rattle.flow_gen.proofs.Steps.{IsPushed}
use Rattle.flow_gen.proofs.session.Maker.push_fifos.Given as goal

abbrev pub invariant-loop-k : goal.invariant-loop-k
invariant-loop-k l = IsPushed fifo_after l.fn.seed l.k l.initial.self.statements l.self.statements l.state
