use Rattle.std.proofs.{Common.◌≡◌, Common.◌+◌, Common.length, Common.arith, lemmas.Result.on_ok_weaker}
use Rattle.stall_text.proofs.Lines.{port_line}
use Rattle.stall_text.proofs.ports.print_port.Goals as goal

pub returns : goal.returns
returns c =
    let last : c.in-Some.last + 1 ≡ length c.args.clocks.now = let e = c.in-Some.ensures in omega arith in
    on_ok_weaker c.push.result
    (port_line c.args.text.now c.args.name.now c.args.channel.now c.port_word.result.now c.args.side c.args.clocks.now
    c.in-Some.last c.extend_from_slice.new.self c.push_token.new.text c.push_token-2.new.text c.push_token-3.new.text
    c.push_value.new.text c.push_value-2.new.text c.push_value-3.new.text c.push.new.self last c.port_word.ensures
    c.in_ok-extend_from_slice.ensures.ok c.in_ok-push_token.ensures.ok c.in_ok-push_token-2.ensures.ok c.in_ok-push_token-3.ensures.ok
    c.in_ok-push_value.ensures.ok c.in_ok-push_value-2.ensures.ok c.in_ok-push_value-3.ensures.ok) c.push.ensures.ok
