use Rattle.std.proofs.Common.{◌≡◌, ℕ, ◌<◌, false}
use Rattle.core_actions.specs.{design, is_earlier, theory_of}
use Rattle.core_actions.proofs.permitting.later.Given as goal

-- no module so far has an open step before the cycle
abbrev pub invariant-loop-other : goal.invariant-loop-other
invariant-loop-other l = (k : ℕ) → k < l.other
    → is_earlier (design l.core.plan) l.core.plan.cycles (theory_of l.core) l.owner k ≡ false
