use Rattle.std.proofs.Common.{sym, subst, ◌∙◌, arith}
use Rattle.sim_core.specs.{MayRun, design, CoreView, theory_of}
use Rattle.sim_core.proofs.Stretching.{ran_once}
use Rattle.sim_core.proofs.machine.Core.run.Goals as goal

pub returns-then-is_short-clause-no_memory : goal.returns-then-is_short-clause-no_memory
returns-then-is_short-clause-no_memory c =
    let few = c.run_up_to-ran.ensures.fewer (sym c.is_short.ensures ∙ c.if-is_short.true) in
    c.run_up_to-ran.ensures.ran.same (omega arith)

pub returns-then-is_short-clause-permitted : goal.returns-then-is_short-clause-permitted
returns-then-is_short-clause-permitted c =
    let short = sym c.is_short.ensures ∙ c.if-is_short.true in
    let few = c.run_up_to-ran.ensures.fewer short in
    subst (λ (v : CoreView). MayRun (design v.plan) (theory_of v) c.args.owner) (c.run_up_to-ran.ensures.ran.same (omega arith))
    (c.run_up_to-ran.ensures.more short)

pub returns-clause-acts : goal.returns-clause-acts
returns-clause-acts c = λ e.
    let most = c.run_up_to-ran.ensures.most in
    ran_once c.run_up_to-ran.ensures.ran (omega arith)
