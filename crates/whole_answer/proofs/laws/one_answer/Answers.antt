use Rattle.whole_answer.specs.{accepted}
use Rattle.whole_answer.proofs.Answering.{command_some, command_only}
use Rattle.whole_answer.proofs.laws.one_answer.Goals as goal

pub returns-clause-some : goal.returns-clause-some
returns-clause-some c = λ words bytes. command_some c.one_text_answer.ensures.some (accepted words) bytes

pub returns-clause-no_other : goal.returns-clause-no_other
returns-clause-no_other c = λ words bytes. command_only c.one_text_answer.ensures.no_other (accepted words) bytes
