use Rattle.std.proofs.lemmas.Result.{on_ok_weaker}
use Rattle.stall_text.proofs.Lines.{query_line}
use Rattle.stall_text.proofs.queries.print_query.Goals as goal

pub returns : goal.returns
returns c =
    on_ok_weaker c.push.result
    (query_line c.args.text.now c.args.name.now c.args.channel.now c.kind_word.result.now c.extend_from_slice.new.self
    c.push_token.new.text c.push_token-2.new.text c.push_token-3.new.text c.push_value.new.text c.push_value-2.new.text c.push.new.self
    c.args.kind c.args.of.tried c.args.of.missed c.requires c.kind_word.ensures c.in_ok-extend_from_slice.ensures.ok
    c.in_ok-push_token.ensures.ok c.in_ok-push_token-2.ensures.ok c.in_ok-push_token-3.ensures.ok c.in_ok-push_value.ensures.ok
    c.in_ok-push_value-2.ensures.ok) c.push.ensures.ok
