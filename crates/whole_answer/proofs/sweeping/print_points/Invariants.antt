use Rattle.std.proofs.Common.{◌≡◌, ◌++◌, map, take}
use Rattle.whole_answer.specs.{text_of_lines, point_tokens}
use Rattle.whole_answer.proofs.sweeping.print_points.Given as goal

abbrev pub invariant-loop-point : goal.invariant-loop-point
invariant-loop-point l = l.text ≡ l.fn.text ++ text_of_lines (map point_tokens (take l.point-index l.points))
