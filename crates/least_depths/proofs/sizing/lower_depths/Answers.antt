use Rattle.std.proofs.Common.{◌≡◌, ◌∙◌, ap, refl, length, arith}
use Rattle.least_depths.specs.{Plan, SessionView, with_depths, limited, lowered}
use Rattle.least_depths.proofs.{Sized.one_run_more, Channels.lowered_of, Stopping.same_sizes, Stopping.same_tries}
use Rattle.least_depths.proofs.sizing.lower_depths.Goals as goal

pub returns-clause-found : goal.returns-clause-found
returns-clause-found g c =
    let p = c.args.plan.now in
    let q = with_depths p c.args.depths in
    let start : c.in_ok-session.session.plan ≡ limited c.args.clock q =
    ap (λ (s : SessionView). s.plan) c.in_ok-session.ensures.opened ∙ (c.new-limited.ensures ∙ (c.limit_cycles.ensures
    ∙ ap (λ (r : Plan). limited c.args.clock (with_depths r c.args.depths)) (c.into_plan-own.ensures.plan ∙ c.in_ok-copy.ensures))) in
    let last = c.lower_all.new.session.plan in
    lowered_of (limited c.args.clock q) c.args.clock c.in_ok-session.session.plan last c.verdict.result c.in_ok-from_slice.field-0
    c.in_ok-tries.tries (length p.design.channels) start c.in_ok-tries.ensures.plan c.in_ok-tries.ensures.tries refl
    c.verdict.ensures
    (c.in_ok-from_slice.ensures ∙ (c.as_slice.ensures ∙ ap (λ (r : Plan). r.depths) c.plan.ensures))
    ∙ same_sizes q c.requires.fits c.args.clock (length p.design.channels) c.requires.in_time

pub returns-in_err-from_slice-clause-made : goal.returns-in_err-from_slice-clause-made
returns-in_err-from_slice-clause-made g c =
    let p = c.args.plan.now in
    let q = with_depths p c.args.depths in
    let start : c.in_ok-session.session.plan ≡ limited c.args.clock q =
    ap (λ (s : SessionView). s.plan) c.in_ok-session.ensures.opened ∙ (c.new-limited.ensures ∙ (c.limit_cycles.ensures
    ∙ ap (λ (r : Plan). limited c.args.clock (with_depths r c.args.depths)) (c.into_plan-own.ensures.plan ∙ c.in_ok-copy.ensures))) in
    let tries = ap (λ (r : Plan). (lowered r c.args.clock (length r.design.channels)).tries) start
    ∙ same_tries q c.args.clock (length p.design.channels) in
    let count = ap (λ (r : Plan). length r.design.channels) start in
    let made = c.lower_all.ensures.made in
    let first = one_run_more _ _ _ c.new.ensures.counted c.new.ensures.stays in
    omega arith

pub returns-in_err-tries-clause-made : goal.returns-in_err-tries-clause-made
returns-in_err-tries-clause-made g c =
    let p = c.args.plan.now in
    let q = with_depths p c.args.depths in
    let start : c.in_ok-session.session.plan ≡ limited c.args.clock q =
    ap (λ (s : SessionView). s.plan) c.in_ok-session.ensures.opened ∙ (c.new-limited.ensures ∙ (c.limit_cycles.ensures
    ∙ ap (λ (r : Plan). limited c.args.clock (with_depths r c.args.depths)) (c.into_plan-own.ensures.plan ∙ c.in_ok-copy.ensures))) in
    let tries = ap (λ (r : Plan). (lowered r c.args.clock (length r.design.channels)).tries) start
    ∙ same_tries q c.args.clock (length p.design.channels) in
    let count = ap (λ (r : Plan). length r.design.channels) start in
    let made = c.lower_all.ensures.made in
    let first = one_run_more _ _ _ c.new.ensures.counted c.new.ensures.stays in
    omega arith

pub returns-clause-made : goal.returns-clause-made
returns-clause-made g c =
    let p = c.args.plan.now in
    let q = with_depths p c.args.depths in
    let start : c.in_ok-session.session.plan ≡ limited c.args.clock q =
    ap (λ (s : SessionView). s.plan) c.in_ok-session.ensures.opened ∙ (c.new-limited.ensures ∙ (c.limit_cycles.ensures
    ∙ ap (λ (r : Plan). limited c.args.clock (with_depths r c.args.depths)) (c.into_plan-own.ensures.plan ∙ c.in_ok-copy.ensures))) in
    let tries = ap (λ (r : Plan). (lowered r c.args.clock (length r.design.channels)).tries) start
    ∙ same_tries q c.args.clock (length p.design.channels) in
    let count = ap (λ (r : Plan). length r.design.channels) start in
    let made = c.lower_all.ensures.made in
    let first = one_run_more _ _ _ c.new.ensures.counted c.new.ensures.stays in
    omega arith
