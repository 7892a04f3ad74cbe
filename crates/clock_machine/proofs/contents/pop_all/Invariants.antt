use Rattle.std.proofs.Common.{◌≡◌, map, take}
use Rattle.std.specs.List.{enumerate_from}
use Rattle.clock_machine.specs.{after_pops}
use Rattle.clock_machine.proofs.contents.pop_all.Given as goal

abbrev pub invariant-loop-channel : goal.invariant-loop-channel
invariant-loop-channel l = l.contents ≡ map (after_pops (take l.channel-index l.pops)) (enumerate_from 0 l.initial.contents)
