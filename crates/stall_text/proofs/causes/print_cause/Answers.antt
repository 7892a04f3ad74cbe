use Rattle.std.proofs.lemmas.Result.{on_ok_weaker}
use Rattle.stall_text.proofs.Lines.{cause_line}
use Rattle.stall_text.proofs.causes.print_cause.Goals as goal

pub returns : goal.returns
returns c =
    on_ok_weaker c.push.result
    (cause_line c.args.text.now c.args.name.now c.args.channel.now c.stall_word.result.now c.extend_from_slice.new.self
    c.push_token.new.text c.push_token-2.new.text c.push_token-3.new.text c.push_value.new.text c.push.new.self c.args.side c.args.clocks
    c.if-clocks-eq0.false c.stall_word.ensures c.in_ok-extend_from_slice.ensures.ok c.in_ok-push_token.ensures.ok
    c.in_ok-push_token-2.ensures.ok c.in_ok-push_token-3.ensures.ok c.in_ok-push_value.ensures.ok) c.push.ensures.ok
