use Rattle.std.proofs.Common.{◌≡◌, map}
use Rattle.std.specs.List.{range_with_len}
use Rattle.clock_machine.specs.{inputs_of}
use Rattle.clock_machine.proofs.opening.fill_channels.Given as goal

abbrev pub invariant-loop-i : goal.invariant-loop-i
invariant-loop-i l = l.contents ≡ map (inputs_of l.plan) (range_with_len 0 l.i)
