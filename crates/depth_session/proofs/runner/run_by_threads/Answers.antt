use Rattle.std.proofs.Common.{sym, subst}
use Rattle.depth_session.specs.{Plan, IsFinal, AllVerified, design, theory_of}
use Rattle.depth_session.proofs.runner.run_by_threads.Goals as goal

pub returns-clause-plan : goal.returns-clause-plan
returns-clause-plan g c = c.in_ok-threaded.ensures.run.plan_is

pub returns-clause-done : goal.returns-clause-done
returns-clause-done g c =
    let p = c.args.core.plan in
    let core = c.in_ok-threaded.threaded.core in
    let run = c.in_ok-threaded.ensures.run in
    subst (λ (q : Plan). IsFinal (design q) q.cycles (theory_of core)) (sym run.plan_is)
    (subst (IsFinal (design p) p.cycles) (sym run.core) run.final)

pub returns-clause-verified : goal.returns-clause-verified
returns-clause-verified g c =
    let p = c.args.core.plan in
    let run = c.in_ok-threaded.ensures.run in
    let fits = c.agrees.ensures.fits in
    let turns = run.stands.turns in
    let legal = c.histories_are_legal.ensures.legal p fits turns run.at run.stands.standing in
    subst AllVerified (sym run.core) (c.histories_are_legal.ensures.verified p fits turns run.at legal)

pub returns-clause-own : goal.returns-clause-own
returns-clause-own g c = c.in_ok-threaded.ensures.run.own
