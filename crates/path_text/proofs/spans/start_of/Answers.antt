use Rattle.path_text.proofs.SpanLinks.{start_found, start_there}
use Rattle.path_text.proofs.spans.start_of.Goals as goal

pub returns-in-Some : goal.returns-in-Some
returns-in-Some c p owner end a l move = start_found p owner end c.args.spans.now a c.args.clock l move c.in-Some.span c.in-Some.ensures

pub returns-in-None : goal.returns-in-None
returns-in-None c p owner end a l move = absurd (start_there p owner end c.args.spans.now a c.args.clock l move c.in-None.ensures)
