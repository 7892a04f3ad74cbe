use Rattle.std.proofs.Common.{◌≡◌, drop}
use Rattle.flow_check.specs.{first_for, broken_by}
use Rattle.flow_check.proofs.rules.first_broken.Given as goal

-- no rule so far is broken
abbrev pub invariant-loop-rule : goal.invariant-loop-rule
invariant-loop-rule l = first_for (broken_by l.scale l.plan) (drop l.rule-index l.rules) ≡ first_for (broken_by l.scale l.plan) l.rules
