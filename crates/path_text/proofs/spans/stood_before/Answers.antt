use Rattle.std.proofs.Common.{sym, subst, arith, Option}
use Rattle.path_text.specs.{Port, StoodBefore}
use Rattle.path_text.proofs.SpanLinks.{stood_found, stood_there}
use Rattle.path_text.proofs.spans.stood_before.Goals as goal

pub returns-in-Some : goal.returns-in-Some
returns-in-Some c p owner end a l move =
    subst (λ (o : Option Port). StoodBefore p owner c.args.clock o) (sym c.port_of.ensures)
    (stood_found p owner end c.args.spans.now a c.args.clock (omega (arith, c.if-clock-eq0.false)) l move c.in-Some.span c.in-Some.ensures)

pub returns-in-None : goal.returns-in-None
returns-in-None c p owner end a l move =
    stood_there p owner end c.args.spans.now a c.args.clock (omega (arith, c.if-clock-eq0.false)) l move c.in-None.ensures
