use Rattle.std.proofs.Common.{◌≡◌, map, take}
use Rattle.std.specs.List.{enumerate_from}
use Rattle.clock_machine.specs.{after_pushes}
use Rattle.clock_machine.proofs.contents.push_all.Given as goal

abbrev pub invariant-loop-pushed : goal.invariant-loop-pushed
invariant-loop-pushed l = l.contents
    ≡ map (after_pushes l.plan l.clock (take l.pushed-index l.pushes)) (enumerate_from 0 l.initial.contents)
