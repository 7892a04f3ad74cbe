use Rattle.std.proofs.Common.{rules, subst, arith}
use Rattle.path_check.specs.{Place, IsTimedAt, depths_with}
use Rattle.path_check.proofs.Ends.{along_first, along_more}
use Rattle.path_check.proofs.paths.clocks_along.Goals as goal

pub loop-at-init : goal.loop-at-init
loop-at-init c =
    along_first c.args.engine.now (depths_with c.args.depths.now c.args.edit) c.args.path.now (search rules)
    (subst (λ (p : Place). IsTimedAt c.args.engine.now.graph.lanes p) c.nth_place.ensures
    (c.is_timed.ensures.timed c.if-not-is_timed.false))

pub loop-at-preserved : goal.loop-at-preserved
loop-at-preserved c =
    along_more c.args.engine.now (depths_with c.args.depths.now c.args.edit) c.args.path.now c.loop-at.at c.loop-at.clocks c.in_ok-more.more
    c.saturating_add-clocks.result (omega (arith, c.loop-at-test.true)) (omega (arith, c.saturating_add-clocks.ensures))
    (subst (λ (p : Place). IsTimedAt c.args.engine.now.graph.lanes p) c.nth_place-next.ensures
    (c.is_timed-in-loop-at.ensures.timed c.if-not-is_timed-2.false))
    (rw (c.nth_place-in-loop-at.ensures, c.nth_place-next.ensures) at c.in_ok-more.ensures) c.loop-at.invariant
