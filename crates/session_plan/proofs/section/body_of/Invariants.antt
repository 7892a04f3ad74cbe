use Rattle.std.proofs.Common.{◌≡◌, ◌+◌, drop, not}
use Rattle.std.specs.List.{prefix_len}
use Rattle.session_plan.specs.{begins}
use Rattle.session_plan.proofs.section.body_of.Given as goal

-- none so far begins a section
abbrev pub invariant-loop-i : goal.invariant-loop-i
invariant-loop-i l = l.i + prefix_len (λ s. not (begins l.level s)) (drop l.i l.rest) ≡ prefix_len (λ s. not (begins l.level s)) l.rest
