use Rattle.std.proofs.Common.{◌≡◌, ◌+◌, Some, sym, ◌∙◌, ap, arith}
use Rattle.least_memory.specs.{verdict, with_depths, CoreView, wide, least_by, leasts, Leasts}
use Rattle.depth_advice.proofs.Finding.{advised_by, follows_ok, verdict_told}
use Rattle.least_depths.proofs.Sized.{clock_within, other_end}
use Rattle.least_memory.proofs.Least.{advised_verdict, done_leasts, left_leasts, wide_deepest}
use Rattle.least_memory.proofs.finding.find_least.Goals as goal

pub overflow_add-clock : goal.overflow_add-clock
overflow_add-clock g c =
    let p = c.args.plan.now in
    let is_wide : c.new-core.result.plan ≡ wide p
    = ap (λ (v : CoreView). v.plan) c.new-core.ensures ∙ (c.in_ok-run.ensures.plan ∙ (c.widen.ensures ∙ ap wide c.in_ok-own.ensures)) in
    let told = advised_verdict p c.new-core.result.plan c.fits.ensures is_wide c.verdict.result c.verdict.ensures in
    let few = clock_within p c.fits.ensures c.in-Done.clock (told ∙ c.in-Done.is) in
    let slack = c.requires.slack in
    omega arith

pub fewest_bits-requires-clause-deepest : goal.fewest_bits-requires-clause-deepest
fewest_bits-requires-clause-deepest g c = λ κs outlives.
    wide_deepest c.args.plan.now c.new-core.result.plan
    (ap (λ (v : CoreView). v.plan) c.new-core.ensures ∙ (c.in_ok-run.ensures.plan ∙ (c.widen.ensures ∙ ap wide c.in_ok-own.ensures)))

pub returns-in-Done : goal.returns-in-Done
returns-in-Done g c =
    let p = c.args.plan.now in
    let q = c.new-core.result.plan in
    let is_wide : q ≡ wide p
    = ap (λ (v : CoreView). v.plan) c.new-core.ensures ∙ (c.in_ok-run.ensures.plan ∙ (c.widen.ensures ∙ ap wide c.in_ok-own.ensures)) in
    let told = advised_verdict p q c.fits.ensures is_wide c.verdict.result c.verdict.ensures in
    follows_ok c.fewest_bits.result (λ (x : Leasts). least_by q (c.in-Done.clock + c.args.slack) ≡ Some x.depths)
    (λ (x : Leasts). x.verdict ≡ verdict (with_depths q x.depths)) (λ (x : Leasts). x ≡ leasts c.args.slack p)
    c.fewest_bits.ensures.least c.fewest_bits.ensures.told
    (λ x least is. done_leasts c.args.slack p q x.depths x.verdict c.in-Done.clock is_wide (told ∙ c.in-Done.is) least is)

pub returns : goal.returns
returns g c =
    let p = c.args.plan.now in
    let q = c.new-core.result.plan in
    let advice = c.in_ok-advice-in-Deadlock.advice in
    let found = c.in_ok-advice-in-Deadlock.ensures in
    let is_wide : q ≡ wide p
    = ap (λ (v : CoreView). v.plan) c.new-core.ensures ∙ (c.in_ok-run.ensures.plan ∙ (c.widen.ensures ∙ ap wide c.in_ok-own.ensures)) in
    let same : c.verdict.result ≡ advice.verdict = c.verdict.ensures ∙ (verdict_told q ∙ sym found.verdict) in
    left_leasts c.args.slack p advice.depths advice.verdict
    (λ clock ends. other_end c.verdict.result c.in-Deadlock.is clock (same ∙ ends))
    (advised_by p q advice.depths is_wide found.depths)
    (advised_verdict p q c.fits.ensures is_wide advice.verdict (sym same ∙ c.verdict.ensures))
