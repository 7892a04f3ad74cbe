use Rattle.stall_text.specs.{ports_of}
use Rattle.stall_text.proofs.Lines.{sides_more}
use Rattle.stall_text.proofs.ports.print_ports.Goals as goal

pub loop-channel-preserved : goal.loop-channel-preserved
loop-channel-preserved c =
    sides_more (ports_of c.args.core.now.plan c.args.owner) c.loop-channel.channel c.args.text.now c.loop-channel.text
    c.print_own.new.text c.print_own-in-loop-channel.new.text c.loop-channel.invariant c.in_ok-print_own.ensures
    c.in_ok-print_own-2.ensures
