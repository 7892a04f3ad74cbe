use Rattle.std.proofs.Common.{◌≡◌, refl, subst, ◌≤◌, ◌+◌, arith}
use Rattle.sim_core.specs.{AreUntimable, CoreView}
use Rattle.sim_core.proofs.TimingRounds.{untimable_more, untimable_on}
use Rattle.sim_core.proofs.machine.Core.time_from.Goals as goal

pub returns-then-count-gt0-clause-done : goal.returns-then-count-gt0-clause-done
returns-then-count-gt0-clause-done g c =
    let i = c.loop-owner.invariant in
    rw (← i.same, ← i.ticks) (c.time_some-count.ensures.done (let some = c.if-count-gt0.true in omega arith))

pub returns-then-count-gt0-clause-first : goal.returns-then-count-gt0-clause-first
returns-then-count-gt0-clause-first g c =
    let i = c.loop-owner.invariant in
    subst (λ (v : CoreView). AreUntimable v c.args.from c.in-Some.owner) i.same
    (untimable_on c.loop-owner.self c.args.from c.loop-owner.at c.in-Some.owner i.none c.in-Some.ensures.before)

pub loop-owner-preserved : goal.loop-owner-preserved
loop-owner-preserved g c =
    let i = c.loop-owner.invariant in
    let none : c.time_some-count.result ≡ 0 = let z = c.if-count-gt0.false in omega arith in
    let (same, ticks) = c.time_some-count.ensures.unchanged none in
    let after = c.in-Some.ensures.after in
    let before = i.after in
    rw (same, ticks) (record {
      same = i.same;
      ticks = i.ticks;
      none = untimable_on c.loop-owner.self c.args.from c.loop-owner.at (c.in-Some.owner + 1) i.none
          (untimable_more c.loop-owner.self c.loop-owner.at c.in-Some.owner c.in-Some.ensures.before
          (c.time_some-count.ensures.none none));
      after = let l : c.args.from ≤ c.in-Some.owner + 1 = omega arith in l;
    })

pub returns-clause-none : goal.returns-clause-none
returns-clause-none g c = λ e.
    let i = c.loop-owner.invariant in
    subst (λ (v : CoreView). AreUntimable v c.args.from c.args.to) i.same
    (untimable_on c.loop-owner.self c.args.from c.loop-owner.at c.args.to i.none (c.in_default.ensures.none refl))
