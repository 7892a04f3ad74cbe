use Rattle.std.proofs.Common.{◌≡◌, ◌∙◌, ap, arith, subst, sym, ℕ, List}
use Rattle.std.proofs.lemmas.Result.{IfOk-weaker, on_ok_weaker}
use Rattle.least_depths.specs.{Sizes, FitsEngine, with_depths, advised}
use Rattle.depth_order.proofs.Plans.{depths_fit}
use Rattle.depth_advice.proofs.Depths.{advised_depths}
use Rattle.least_depths.proofs.Sized.{advised_verdict, done_sizes, other_end, left_sizes, two_runs, one_run, one_run_more, clock_within}
use Rattle.least_depths.proofs.Sized.{end_in_time}
use Rattle.least_depths.proofs.sizing.find_sizes.Goals as goal

pub lower_depths-requires-clause-fits : goal.lower_depths-requires-clause-fits
lower_depths-requires-clause-fits g c κs within =
    let p = c.args.plan.now in
    let own : c.in_ok-own.own ≡ p = c.in_ok-own.ensures in
    let depths : c.in_ok-advice.advice.depths ≡ advised p = c.in_ok-advice.ensures.depths ∙ ap advised own in
    subst (λ (ds : List ℕ). FitsEngine (with_depths p ds)) (sym depths)
    (depths_fit p c.fits.ensures (advised p) (advised_depths p c.fits.ensures))

pub lower_depths-requires-clause-in_time : goal.lower_depths-requires-clause-in_time
lower_depths-requires-clause-in_time g c κs within =
    let p = c.args.plan.now in
    let advice = c.in_ok-advice.advice in
    let own : c.in_ok-own.own ≡ p = c.in_ok-own.ensures in
    let depths : advice.depths ≡ advised p = c.in_ok-advice.ensures.depths ∙ ap advised own in
    let told = advised_verdict p c.in_ok-own.own c.fits.ensures own advice.verdict c.in_ok-advice.ensures.verdict in
    end_in_time p advice.depths c.in-Done.clock c.args.slack depths (told ∙ c.in-Done.is)

pub overflow_add-clock : goal.overflow_add-clock
overflow_add-clock g c =
    let p = c.args.plan.now in
    let advice = c.in_ok-advice.advice in
    let own : c.in_ok-own.own ≡ p = c.in_ok-own.ensures in
    let depths : advice.depths ≡ advised p = c.in_ok-advice.ensures.depths ∙ ap advised own in
    let told = advised_verdict p c.in_ok-own.own c.fits.ensures own advice.verdict c.in_ok-advice.ensures.verdict in
    let few = clock_within p c.fits.ensures c.in-Done.clock (told ∙ c.in-Done.is) in
    let slack = c.requires in
    omega arith

pub returns-in-Done-clause-found : goal.returns-in-Done-clause-found
returns-in-Done-clause-found g c =
    let p = c.args.plan.now in
    let advice = c.in_ok-advice.advice in
    let own : c.in_ok-own.own ≡ p = c.in_ok-own.ensures in
    let depths : advice.depths ≡ advised p = c.in_ok-advice.ensures.depths ∙ ap advised own in
    let told = advised_verdict p c.in_ok-own.own c.fits.ensures own advice.verdict c.in_ok-advice.ensures.verdict in
    IfOk-weaker c.lower_depths.result _ _ (λ found h. h ∙ done_sizes c.args.slack p advice.depths c.in-Done.clock
    depths (told ∙ c.in-Done.is)) c.lower_depths.ensures.found

pub returns-in-Deadlock-clause-found : goal.returns-in-Deadlock-clause-found
returns-in-Deadlock-clause-found g c =
    let p = c.args.plan.now in
    let advice = c.in_ok-advice.advice in
    let own : c.in_ok-own.own ≡ p = c.in_ok-own.ensures in
    let depths : advice.depths ≡ advised p = c.in_ok-advice.ensures.depths ∙ ap advised own in
    left_sizes c.args.slack p advice.depths advice.verdict (other_end advice.verdict c.in-Deadlock.is)
    depths
    (advised_verdict p c.in_ok-own.own c.fits.ensures own advice.verdict c.in_ok-advice.ensures.verdict)

pub returns-in-Done-clause-made : goal.returns-in-Done-clause-made
returns-in-Done-clause-made g c =
    let p = c.args.plan.now in
    let advice = c.in_ok-advice.advice in
    let own : c.in_ok-own.own ≡ p = c.in_ok-own.ensures in
    let depths : advice.depths ≡ advised p = c.in_ok-advice.ensures.depths ∙ ap advised own in
    let told = advised_verdict p c.in_ok-own.own c.fits.ensures own advice.verdict c.in_ok-advice.ensures.verdict in
    let tries = ap (λ (x : Sizes). x.tries) (done_sizes c.args.slack p advice.depths c.in-Done.clock
    depths (told ∙ c.in-Done.is)) in
    let made = c.lower_depths.ensures.made in
    let first = one_run_more _ _ _ c.advised_depths.ensures.counted c.advised_depths.ensures.stays in
    omega arith

pub returns-in-Done-clause-quiet : goal.returns-in-Done-clause-quiet
returns-in-Done-clause-quiet g c = λ none few.
    let p = c.args.plan.now in
    let advice = c.in_ok-advice.advice in
    let own : c.in_ok-own.own ≡ p = c.in_ok-own.ensures in
    let depths : advice.depths ≡ advised p = c.in_ok-advice.ensures.depths ∙ ap advised own in
    let told = advised_verdict p c.in_ok-own.own c.fits.ensures own advice.verdict c.in_ok-advice.ensures.verdict in
    let twice = two_runs c.args.slack p c.fits.ensures c.in-Done.clock (told ∙ c.in-Done.is) in
    let first = c.advised_depths.ensures.counted (omega arith) in
    on_ok_weaker c.lower_depths.result (λ second. omega arith) (c.lower_depths.ensures.quiet none (omega arith))

pub returns-in-Deadlock-clause-quiet : goal.returns-in-Deadlock-clause-quiet
returns-in-Deadlock-clause-quiet g c = λ none few.
    let p = c.args.plan.now in
    let advice = c.in_ok-advice.advice in
    let own : c.in_ok-own.own ≡ p = c.in_ok-own.ensures in
    let depths : advice.depths ≡ advised p = c.in_ok-advice.ensures.depths ∙ ap advised own in
    let told = advised_verdict p c.in_ok-own.own c.fits.ensures own advice.verdict c.in_ok-advice.ensures.verdict in
    let once = one_run c.args.slack p advice.depths advice.verdict (other_end advice.verdict c.in-Deadlock.is)
    depths told in
    let first = c.advised_depths.ensures.counted (omega arith) in
    omega arith
