use Rattle.std.proofs.Common.{◌≡◌, map, take}
use Rattle.flow_print.specs.{text_of_lines, statement_tokens}
use Rattle.flow_print.proofs.session.print_session.Given as goal

abbrev pub invariant-loop-statement : goal.invariant-loop-statement
invariant-loop-statement l = l.text ≡ text_of_lines (map (statement_tokens l.version) (take l.statement-index l.statements))
