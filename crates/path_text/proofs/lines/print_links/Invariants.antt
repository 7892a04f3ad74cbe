use Rattle.std.proofs.Common.{◌≡◌, ◌++◌, map, reverse, drop}
use Rattle.path_text.specs.{text_of_lines, link_tokens}
use Rattle.path_text.proofs.lines.print_links.Given as goal

abbrev pub invariant-loop-at : goal.invariant-loop-at
invariant-loop-at l = l.text ≡ l.fn.text ++ text_of_lines (map (link_tokens l.design) (reverse (drop l.at l.links)))
