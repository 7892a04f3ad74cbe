use Rattle.std.proofs.Common.{◌≡◌, ℕ, suc, ◌+◌, sym, ap, subst, ◌∙◌, arith, slice_get}
use Rattle.sim_core.specs.{log_at, IsReadingOutcomes}
use Rattle.sim_core.proofs.Posting.{outcomes_more, outcomes_end}
use Rattle.sim_core.proofs.post.read_outcomes.Goals as goal

pub returns-in_default-outcome : goal.returns-in_default-outcome
returns-in_default-outcome c =
    outcomes_end (log_at c.args.log.now.logs c.args.owner).outcomes c.args.first c.args.count c.loop-at.outcomes c.loop-at.at
    c.loop-at.invariant (ap (slice_get (log_at c.args.log.now.logs c.args.owner).outcomes) (sym c.in-Some.ensures.1)
    ∙ (sym c.outcome.ensures ∙ c.in_default-outcome.is))

pub loop-at-preserved : goal.loop-at-preserved
loop-at-preserved c =
    let z : suc c.loop-at.at ≡ c.loop-at.at + 1 = omega arith in
    subst (λ (n : ℕ). IsReadingOutcomes (log_at c.args.log.now.logs c.args.owner).outcomes c.args.first c.args.count c.push.new.self n) z
    (outcomes_more (log_at c.args.log.now.logs c.args.owner).outcomes c.args.first c.args.count c.loop-at.outcomes c.push.new.self
    c.loop-at.at c.in-Some-outcome.yes c.loop-at.invariant c.loop-at-test.true
    (ap (slice_get (log_at c.args.log.now.logs c.args.owner).outcomes) (sym c.in-Some.ensures.1)
    ∙ (sym c.outcome.ensures ∙ c.in-Some-outcome.is)) c.in_ok-push.ensures.ok)
