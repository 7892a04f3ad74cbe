use Rattle.std.proofs.Common.{◌≡◌, ◌++◌, [], drop, map}
use Rattle.session_plan.specs.{block, sections, scope_at}
use Rattle.session_plan.specs.declared.section.Level.TheVariants as level
use Rattle.session_plan.proofs.modules.blocks_of.Given as goal

abbrev pub invariant-loop-i : goal.invariant-loop-i
invariant-loop-i l =
    l.blocks ++ map (block (scope_at l.channels l.own [])) (sections level.Blocks (drop l.i l.body))
    ≡ map (block (scope_at l.channels l.own [])) (sections level.Blocks l.body)
