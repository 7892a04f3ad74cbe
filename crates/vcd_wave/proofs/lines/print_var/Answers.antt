use Rattle.vcd_wave.proofs.LineLemmas.{on_ok, var_line}
use Rattle.vcd_wave.proofs.lines.print_var.Goals as goal

pub returns : goal.returns
returns c =
    on_ok c.push.result c.push.ensures.ok
    (var_line c.args.text.now _ _ _ _ c.push.new.self c.args.fifo c.args.name.now c.in_ok-extend_from_slice.ensures.ok
    c.in_ok-push_code.ensures c.in_ok-push_token.ensures.ok c.in_ok-push_token-2.ensures.ok)
