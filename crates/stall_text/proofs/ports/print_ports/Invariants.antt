use Rattle.std.proofs.Common.{◌≡◌, ◌++◌}
use Rattle.stall_text.specs.{text_of_lines, at_each_side, ports_of}
use Rattle.stall_text.proofs.ports.print_ports.Given as goal

abbrev pub invariant-loop-channel : goal.invariant-loop-channel
invariant-loop-channel l = l.text ≡ l.fn.text ++ text_of_lines (at_each_side l.channel (ports_of l.core.plan l.owner))
