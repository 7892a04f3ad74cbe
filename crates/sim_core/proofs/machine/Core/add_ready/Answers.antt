use Rattle.std.proofs.Common.{◌≡◌, ◌<◌, refl, sym, subst, inl, inr, length, arith}
use Rattle.std.proofs.lemmas.Bool.{cases_lt}
use Rattle.sim_core.specs.{Has, IsReady, CoreView}
use Rattle.sim_core.proofs.machine.Core.add_ready.Goals as goal

pub overflow_add-from : goal.overflow_add-from
overflow_add-from c =
    let few = c.agrees.ensures.fits.module_count in
    let below = subst (λ (v : CoreView). c.in-Some.owner < length v.plan.design.modules) c.loop-owner.invariant.same
    c.in-Some.ensures.below in
    omega arith

pub loop-owner-preserved : goal.loop-owner-preserved
loop-owner-preserved c =
    let i = c.loop-owner.invariant in
    let e = c.add_one_ready.ensures in
    rw e.unchanged (record {
      same = i.same;
      ready = λ n l room may. elim (cases_lt n c.loop-owner.from) [
        | inl u ↦ e.kept n (i.ready n u room may)
        | inr u ↦ elim (cases_lt n c.in-Some.owner) [
          | inl v ↦ absurd (c.in-Some.ensures.before n u v may.0)
          | inr v ↦
              let same : c.in-Some.owner ≡ n = omega arith in
              let roomed = i.room in
              subst (Has c.add_one_ready.new.ready) same (e.ready (omega arith)
              (subst (IsReady c.loop-owner.self) (let back : n ≡ c.in-Some.owner = omega arith in back) may))
        ]
      ];
      kept = λ n has. e.kept n (i.kept n has);
      only = λ n has. elim (e.only n has) [
        | inl was ↦ i.only n was
        | inr may ↦ inr may
      ];
      room = let roomed = i.room in let more = e.room in omega arith;
    })

pub returns-clause-ready : goal.returns-clause-ready
returns-clause-ready c = λ n room may.
    let i = c.loop-owner.invariant in
    let here = subst (λ (v : CoreView). IsReady v n) (sym i.same) may in
    elim (cases_lt n c.loop-owner.from) [
      | inl u ↦ i.ready n u room here
      | inr u ↦ absurd (c.in_default.ensures.none refl n u here.0.inside here.0)
    ]

pub returns-clause-only : goal.returns-clause-only
returns-clause-only c = λ n has.
    elim (c.loop-owner.invariant.only n has) [
      | inl was ↦ inl was
      | inr may ↦ inr (subst (λ (v : CoreView). IsReady v n) c.loop-owner.invariant.same may)
    ]
