use Rattle.std.proofs.Common.{◌≡◌, ◌++◌, slice_index}
use Rattle.std.specs.List.{flat_map, range_with_len}
use Rattle.path_text.specs.{text_of_lines, channel_name, at_sides, lines_at}
use Rattle.path_text.proofs.lines.print_channels.Given as goal

abbrev pub invariant-loop-number : goal.invariant-loop-number
invariant-loop-number l =
    l.text ≡ l.fn.text
    ++ text_of_lines (flat_map
    (λ f.
    lines_at (channel_name l.design f) (λ side. at_sides l.popped l.pushed side f) (slice_index l.polled f) (slice_index l.waited f))
    (range_with_len 0 l.number))
