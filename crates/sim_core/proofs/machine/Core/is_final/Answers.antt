use Rattle.std.proofs.Common.{◌≡◌, refl, Bool, true, false, not, inl, inr, rules}
use Rattle.sim_core.proofs.TimingRounds as timing
use Rattle.sim_core.proofs.machine.Core.is_final.Goals as goal

no_of : (b : Bool) → not b ≡ true → b ≡ false
no_of true e = cc
no_of false e = refl

yes_of : (b : Bool) → not b ≡ false → b ≡ true
yes_of true e = refl
yes_of false e = cc

pub returns-then-not-any_may_run-clause-holds : goal.returns-then-not-any_may_run-clause-holds
returns-then-not-any_may_run-clause-holds c = λ e.
    let none : c.any_may_run.result ≡ false = search rules in
    timing.final_of c.args.self.now c.agrees.ensures.agreed.marks.inside (λ m l more. elim more [
      | inl may ↦ c.any_may_run.ensures.none none m may
      | inr (k, at) ↦ c.any_has_cycle.ensures.none (no_of c.any_has_cycle.result e) m k l at
    ])

pub returns-then-not-any_may_run-clause-fails : goal.returns-then-not-any_may_run-clause-fails
returns-then-not-any_may_run-clause-fails c = λ e.
    let (m, (k, at)) = c.any_has_cycle.ensures.some (yes_of c.any_has_cycle.result e) in
    timing.not_final c.args.self.now m (inr (k, at))
