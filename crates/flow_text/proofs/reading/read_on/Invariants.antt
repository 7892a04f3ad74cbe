use Rattle.std.specs.Option.{option_copied}
use Rattle.flow_text.specs.{bytes_left}
use Rattle.flow_text.proofs.ReadingLaws.{Reaches}
use Rattle.flow_text.proofs.reading.read_on.Given as goal

abbrev pub invariant-loop-left : goal.invariant-loop-left
invariant-loop-left l = Reaches l.initial.progress.scale l.text l.progress l.number (option_copied l.left)

abbrev pub decreases-loop-left : goal.decreases-loop-left
decreases-loop-left l = bytes_left (option_copied l.left)
