use Rattle.std.proofs.Common.{◌≡◌, ◌++◌, drop, map}
use Rattle.session_plan.specs.{plan_module, sections}
use Rattle.session_plan.specs.declared.section.Level.TheVariants as level
use Rattle.session_plan.proofs.modules.modules_of.Given as goal

abbrev pub invariant-loop-i : goal.invariant-loop-i
invariant-loop-i l =
    l.modules ++ map (plan_module l.channels) (sections level.Modules (drop l.i l.statements))
    ≡ map (plan_module l.channels) (sections level.Modules l.statements)
