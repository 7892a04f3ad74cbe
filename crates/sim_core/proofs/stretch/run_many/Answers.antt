use Rattle.std.proofs.Common.{refl, sym, ap, subst, ◌∙◌, arith}
use Rattle.sim_core.specs.{ModuleState, ActsAll, MayRun, runs, design, core_in, core_of}
use Rattle.event_timing.specs.Core.{Core}
use Rattle.sim_core.proofs.Stretching.{log_inside, runs_more}
use Rattle.sim_core.proofs.stretch.run_many.Goals as goal

pub len-told-requires : goal.len-told-requires
len-told-requires c = let (p, (listed, (o, k))) = c.requires.out in log_inside o.core o.inside

pub loop-runs-init : goal.loop-runs-init
loop-runs-init c = record { out = λ p listed (o, k). o; acts = λ p listed u. refl; none = λ e. refl; most = omega arith }

pub run_once-requires : goal.run_once-requires
run_once-requires c =
    let (p, (listed, (o, k))) = c.requires.out in record { out = (p, (listed, (c.loop-runs.invariant.out p listed (o, k), k))) }

pub loop-runs-preserved : goal.loop-runs-preserved
loop-runs-preserved c =
    let i = c.loop-runs.invariant in
    record {
      out = λ p listed (o, k). c.run_once.ensures.out p listed (i.out p listed (o, k), k);
      acts = λ p listed (o, k).
          runs_more (design p) p.cycles c.args.member.now.number c.loop-runs.runs _ _ _ (i.acts p listed (o, k))
          (c.in-Ok-true.ensures.acts c.in-Ok-true.field-0-test p listed (i.out p listed (o, k), k));
      none = λ e. absurd (omega (arith, e));
      most = let l = c.loop-runs-test.true in omega arith;
    }

pub returns-then-has_asked-clause-out : goal.returns-then-has_asked-clause-out
returns-then-has_asked-clause-out c = λ p listed (o, k).
    c.run_once.ensures.out p listed (c.loop-runs.invariant.out p listed (o, k), k)

pub returns-then-has_asked-clause-acts : goal.returns-then-has_asked-clause-acts
returns-then-has_asked-clause-acts c = λ p listed (o, k).
    let i = c.loop-runs.invariant in
    runs_more (design p) p.cycles c.args.member.now.number c.loop-runs.runs _ _ _ (i.acts p listed (o, k))
    (c.in-Ok-true.ensures.acts c.in-Ok-true.field-0-test p listed (i.out p listed (o, k), k))

pub returns-in-Ok-false-clause-out : goal.returns-in-Ok-false-clause-out
returns-in-Ok-false-clause-out c = λ p listed (o, k).
    c.run_once.ensures.out p listed (c.loop-runs.invariant.out p listed (o, k), k)

pub returns-in-Ok-false-clause-acts : goal.returns-in-Ok-false-clause-acts
returns-in-Ok-false-clause-acts c = λ p listed (o, k).
    subst (ActsAll (design p) p.cycles (core_in p c.args.engine.now)
    (runs c.loop-runs.runs c.args.member.now.number)) (sym (ap (core_of (design p)) (c.in-Ok-false.ensures.unchanged
    c.in-Ok-false.field-0-test)))
    (c.loop-runs.invariant.acts p listed (o, k))

pub returns-in-Ok-false-clause-still : goal.returns-in-Ok-false-clause-still
returns-in-Ok-false-clause-still c = λ e p listed (o, k) may.
    c.in-Ok-false.ensures.not_permitted c.in-Ok-false.field-0-test p listed (c.loop-runs.invariant.out p listed (o, k))
    (subst (λ (x : Core ModuleState). MayRun (design p) x c.args.member.now.number)
    (ap (core_of (design p)) (c.in-Ok-false.ensures.unchanged c.in-Ok-false.field-0-test)) may)

pub returns-in-Ok-false-clause-none : goal.returns-in-Ok-false-clause-none
returns-in-Ok-false-clause-none c = λ e.
    c.in-Ok-false.ensures.unchanged c.in-Ok-false.field-0-test ∙ c.loop-runs.invariant.none e

pub returns-in-Err-clause-out : goal.returns-in-Err-clause-out
returns-in-Err-clause-out c = λ p listed (o, k).
    c.run_once.ensures.out p listed (c.loop-runs.invariant.out p listed (o, k), k)

pub returns-in-Err-clause-acts : goal.returns-in-Err-clause-acts
returns-in-Err-clause-acts c = λ p listed (o, k).
    subst (ActsAll (design p) p.cycles (core_in p c.args.engine.now)
    (runs c.loop-runs.runs c.args.member.now.number)) (sym (ap (core_of (design p)) c.in-Err.ensures.no_memory))
    (c.loop-runs.invariant.acts p listed (o, k))

pub returns-in-Err-clause-none : goal.returns-in-Err-clause-none
returns-in-Err-clause-none c = λ e. c.in-Err.ensures.no_memory ∙ c.loop-runs.invariant.none e

pub returns-in-Err-clause-permitted : goal.returns-in-Err-clause-permitted
returns-in-Err-clause-permitted c = λ e p listed (o, k).
    subst (λ (x : Core ModuleState). MayRun (design p) x c.args.member.now.number)
    (sym (ap (core_of (design p)) c.in-Err.ensures.no_memory))
    (c.in-Err.ensures.permitted p listed (c.loop-runs.invariant.out p listed (o, k), k))
