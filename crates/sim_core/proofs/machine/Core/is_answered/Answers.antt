use Rattle.std.proofs.Common.{◌≡◌, suc, ◌<◌, sym, ap, ◌∙◌, length, is_some, not, arith}
use Rattle.engine_view.specs.Held.{Held}
use Rattle.sim_core.specs.{emitted_of, held_in}
use Rattle.sim_core.proofs.machine.Core.is_answered.Goals.{After-look-step}
use Rattle.sim_core.proofs.Fed as fed
use Rattle.sim_core.proofs.machine.Core.is_answered.Goals as goal

module _ (c : After-look-step) where
  abbrev h : Held
  h = held_in c.self.inside.engine

  newest : suc c.in-Some.last ≡ emitted_of h c.args.owner
  newest = let last = c.in-Some.ensures in let count = c.len.ensures.count in omega arith

  inside : c.args.owner < length c.self.inside.plan.design.modules
  inside = rw (← c.self.view_is) at c.requires

pub returns-clause-some : goal.returns-clause-some
returns-clause-some c =
    let at = (goal.at.returns-clause-some c).After-look-step in
    let missing = rw c.outcomes.ensures at c.first_missing.ensures.missing in
    rw (← c.self.view_is) (λ yes. fed.newest_found c.self.invariant.core (newest at) (inside at) c.look-step.ensures.step
    (sym (ap is_some missing) ∙ (c.is_none.ensures ∙ ap not yes)))

pub returns-clause-none : goal.returns-clause-none
returns-clause-none c =
    let at = (goal.at.returns-clause-none c).After-look-step in
    let missing = rw c.outcomes.ensures at c.first_missing.ensures.missing in
    rw (← c.self.view_is) (λ no. fed.newest_missed c.self.invariant.core (newest at) (inside at) c.look-step.ensures.step
    (sym (ap is_some missing) ∙ (c.is_none.ensures ∙ ap not no)))
