use Rattle.std.proofs.Common.{ℕ, refl, subst, length}
use Rattle.sim_core.specs.{AreUntimable, CoreView}
use Rattle.sim_core.proofs.TimingRounds.{next_over, untimable_on}
use Rattle.sim_core.proofs.machine.Core.time_next.Goals as goal

pub returns-in-None-clause-first : goal.returns-in-None-clause-first
returns-in-None-clause-first g c =
    next_over c.args.self.now c.time_from.new.self (c.in-None.ensures.unchanged refl).0 c.args.at c.requires.at
    (subst (λ (n : ℕ). AreUntimable c.args.self.now c.args.at n) c.modules-count.ensures.count (c.in-None.ensures.none refl))
    c.time_from-in-None.result c.time_from-in-None.ensures.below c.time_from-in-None.ensures.first

pub returns-in-None-clause-none : goal.returns-in-None-clause-none
returns-in-None-clause-none g c = λ e.
    untimable_on c.args.self.now 0 c.args.at (length c.args.self.now.plan.design.modules)
    (subst (λ (v : CoreView). AreUntimable v 0 c.args.at) (c.in-None.ensures.unchanged refl).0 (c.time_from-in-None.ensures.none e))
    (subst (λ (n : ℕ). AreUntimable c.args.self.now c.args.at n) c.modules-count.ensures.count (c.in-None.ensures.none refl))
