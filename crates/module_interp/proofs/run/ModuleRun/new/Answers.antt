use Rattle.std.proofs.Common.{◌∙◌, ap, subst, sym}
use Rattle.flow_design.specs.declared.design.Module.{Module}
use Rattle.module_interp.specs.{Path, first_rest, LeadsTo, KnowsPorts}
use Rattle.module_interp.proofs.Opening.{first_stands}
use Rattle.module_interp.proofs.run.ModuleRun.new.Goals as goal

pub returns-clause-stands : goal.returns-clause-stands
returns-clause-stands c =
    let p = c.args.plan.now in
    let i = c.args.number in
    let is = c.in_ok-path.ensures.ok in
    first_stands p i _ (subst (λ (x : Path). LeadsTo p i (first_rest p i) x) (sym is) c.in_ok-first.ensures.leads)
    (ap (λ (x : Path). x.stage) is ∙ c.in_ok-first.ensures.begun) c.in_ok-tally.ensures.tally
    (subst (λ (m : Module). KnowsPorts m c.in_ok-tally.tally) c.in_ok-first.ensures.leads.path.of c.in_ok-tally.ensures.ports)
