use Rattle.flow_gen.specs.{module_statements}
use Rattle.flow_gen.proofs.Steps.{IsPushed}
use Rattle.flow_gen.proofs.session.Maker.push_modules.Given as goal

abbrev pub invariant-loop-k : goal.invariant-loop-k
invariant-loop-k l = IsPushed (module_statements l.fn.modules) l.fn.seed l.k l.initial.self.statements l.self.statements l.state
