use Rattle.std.proofs.Common.{sym, ap, subst, ◌∙◌, arith}
use Rattle.sim_core.specs.{MayRun, design, CoreView, theory_of, Stretch}
use Rattle.sim_core.proofs.machine.Core.run_up_to.Goals as goal

pub returns-in-On-clause-none : goal.returns-in-On-clause-none
returns-in-On-clause-none c = λ e short may.
    let some = c.run_stretch-ran.ensures.on c.in-On.asks c.in-On.is in absurd (omega arith)

pub still-requires : goal.still-requires
still-requires c = c.run_stretch-ran.ensures.still c.in-Still.is

pub returns-in-Still-clause-none : goal.returns-in-Still-clause-none
returns-in-Still-clause-none c = λ e short.
    subst (λ (v : CoreView). MayRun (design v.plan) (theory_of v) c.args.owner → ⊥) (c.run_stretch-ran.ensures.ran.same (sym (ap (λ (s :
    Stretch). s.runs) c.still.ensures.still) ∙ e))
    (c.run_stretch-ran.ensures.still c.in-Still.is)

pub returns-in-Short-clause-more : goal.returns-in-Short-clause-more
returns-in-Short-clause-more c = λ short. c.run_stretch-ran.ensures.more c.in-Short.is
