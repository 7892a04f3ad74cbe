use Rattle.std.proofs.Common.{◌≡◌, ◌+◌, ◌-◌, ◌^◌, fold, length, min, take}
use Rattle.engine_report.specs.{numbered_step, step_place}
use Rattle.engine_report.proofs.events.count_accesses.Given as goal

abbrev pub invariant-loop-key : goal.invariant-loop-key
invariant-loop-key l =
    l.count ≡ fold (λ count key. min (count + length (numbered_step l.graph.lanes (step_place key)).accesses) (2 ^ 64 - 1)) 0
    (take l.key-index l.keys)
