use Rattle.std.proofs.Common.{◌≡◌, ◌∙◌, ◌<◌, ℕ, refl, sym, subst, false, inl, inr, length, arith}
use Rattle.std.proofs.lemmas.Bool.{cases_lt}
use Rattle.sim_core.specs.{IsDetermined, design, IsListed, theory_of}
use Rattle.sim_core.proofs.{Listing.none_listed, machine.Core.any_has_cycle.Goals.After-first_open}
use Rattle.sim_core.proofs.machine.Core.any_has_cycle.Goals as goal

-- where no candidate has a cycle, none of those listed is determined
module _ (c : After-first_open) (none : c.is_some-all.result ≡ false) where
  not_listed : (n : ℕ) → n < length c.args.self.now.plan.design.modules → IsListed c.self.inside.due n → (k : ℕ)
      → IsDetermined (design c.args.self.now.plan) c.args.self.now.plan.cycles (theory_of c.args.self.now) n k → ⊥
  not_listed =
      rw (← c.self.view_is) (none_listed c.self.inside.plan _ c.self.inside.due c.self.inside.candidates c.self.invariant.listed_are
      (c.earliest.ensures.none.0 (sym c.is_some-all.ensures ∙ none)))

pub overflow_add-from : goal.overflow_add-from
overflow_add-from c = let below = c.in-Some.ensures.below in omega arith

pub loop-owner-preserved : goal.loop-owner-preserved
loop-owner-preserved c = λ m k l at.
    let count = c.modules-count.ensures.count in
    let below = c.in-Some.ensures.below in
    elim (cases_lt m c.loop-owner.from) [
      | inl u ↦ c.loop-owner.invariant m k u at
      | inr u ↦ elim (cases_lt m c.in-Some.owner) [
        | inl v ↦
            let (listed, none) = c.in-Some.ensures.before m u v in
            not_listed ((goal.at.loop-owner-preserved c).After-first_open) none m (omega arith) listed k at
        | inr v ↦
            c.has_cycle.ensures.none c.if-has_cycle.false k
            (subst (λ (n : ℕ). IsDetermined (design c.args.self.now.plan) c.args.self.now.plan.cycles (theory_of c.args.self.now) n k)
            (let same : m ≡ c.in-Some.owner = omega arith in same) at)
      ]
    ]

pub returns-clause-none : goal.returns-clause-none
returns-clause-none c = λ e m k l at.
    let count = c.modules-count.ensures.count in
    elim (cases_lt m c.loop-owner.from) [
      | inl u ↦ c.loop-owner.invariant m k u at
      | inr u ↦
          let (listed, none) = c.in_default.ensures.none refl m u (omega arith) in
          not_listed ((goal.at.returns-clause-none c).After-first_open) none m l listed k at
    ]
