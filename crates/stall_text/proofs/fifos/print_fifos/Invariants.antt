use Rattle.std.proofs.Common.{◌≡◌, ◌++◌, map}
use Rattle.std.specs.List.{filter, range_with_len}
use Rattle.stall_text.specs.{is_fifo, kind_at, text_of_lines, fifo_line}
use Rattle.stall_text.proofs.fifos.print_fifos.Given as goal

abbrev pub invariant-loop-channel : goal.invariant-loop-channel
invariant-loop-channel l =
    l.text ≡ l.fn.text
    ++ text_of_lines (map (fifo_line l.core.plan) (filter (λ f. is_fifo (kind_at l.core.plan f)) (range_with_len 0 l.channel)))
