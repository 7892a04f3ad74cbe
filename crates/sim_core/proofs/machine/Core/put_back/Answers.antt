use Rattle.std.proofs.{Common.refl, Common.subst, Common.Some, Common.is_none, lemmas.List.map-set}
use Rattle.sim_core.specs.{ModuleRun, core_in, IsRunOf}
use Rattle.sim_core.proofs.Lending as lending
use Rattle.sim_core.proofs.Roomed as roomed
use Rattle.sim_core.proofs.machine.Core.put_back.Goals as goal

pub invariant_of-self : goal.invariant_of-self
invariant_of-self c =
    roomed.stored_lent c.self.invariant c.args.owner (rw (← c.self.view_is) at c.requires.inside) (Some c.args.run)
    (λ run e.
    subst (λ (r : ModuleRun). IsRunOf c.self.inside.plan (core_in c.self.inside.plan c.self.inside.engine)
    c.args.owner r) (lending.same_some c.args.run run e) (rw (← c.self.view_is) at c.requires.run_is))

pub returns : goal.returns
returns c = rw (← c.self.view_is, map-set is_none c.self.inside.runs.items c.args.owner (Some c.args.run)) refl
