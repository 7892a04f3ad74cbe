use Rattle.std.proofs.Common.{◌≡◌, ℕ, ◌<◌, false}
use Rattle.core_actions.specs.{design, is_busy, theory_of}
use Rattle.core_actions.proofs.permitting.first_busy.Given as goal

-- of no module so far is one permitted
abbrev pub invariant-loop-owner : goal.invariant-loop-owner
invariant-loop-owner l = (k : ℕ) → k < l.owner → is_busy (design l.core.plan) l.core.plan.cycles (theory_of l.core) k ≡ false
