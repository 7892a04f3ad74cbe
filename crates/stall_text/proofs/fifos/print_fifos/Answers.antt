use Rattle.stall_text.specs.{is_fifo, kind_at, fifo_line}
use Rattle.stall_text.proofs.Lines.{tested_more}
use Rattle.stall_text.proofs.fifos.print_fifos.Goals as goal

pub loop-channel-preserved : goal.loop-channel-preserved
loop-channel-preserved c =
    let p = c.args.core.now.plan in
    tested_more (fifo_line p) (λ f. is_fifo (kind_at p f)) c.loop-channel.channel c.args.text.now c.loop-channel.text
    c.print_fifo.new.text c.loop-channel.invariant c.in_ok-print_fifo.ensures
