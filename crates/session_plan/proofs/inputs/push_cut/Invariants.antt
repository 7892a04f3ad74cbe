use Rattle.std.proofs.Common.{◌≡◌, ◌++◌, take, map}
use Rattle.session_plan.specs.{cut_to}
use Rattle.session_plan.proofs.inputs.push_cut.Given as goal

abbrev pub invariant-loop-value : goal.invariant-loop-value
invariant-loop-value l = l.out ≡ l.initial.out ++ map (cut_to l.width) (take l.value-index l.values)
