use Rattle.path_text.proofs.SpanLinks.{link_is}
use Rattle.path_text.proofs.spans.link_to.Goals as goal

pub returns : goal.returns
returns c p end a l move =
    link_is p c.args.owner end c.args.clock c.start_of-first.result c.stood_before.result l move
    (c.start_of-first.ensures p c.args.owner end a l move)
    (λ k start. c.stood_before.ensures p c.args.owner end a k start)
