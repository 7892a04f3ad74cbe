use Rattle.std.proofs.Common.{◌≡◌, take}
use Rattle.std.specs.List.{enumerate_from, filter_map}
use Rattle.clock_machine.specs.{all_ready, held_by}
use Rattle.clock_machine.proofs.ending.hold_all.Given as goal

abbrev pub invariant-loop-i : goal.invariant-loop-i
invariant-loop-i l =
    l.held ≡ filter_map (held_by l.of.plan.now 0 (all_ready l.state.contents)) (take l.i (enumerate_from 0 l.state.modules))
