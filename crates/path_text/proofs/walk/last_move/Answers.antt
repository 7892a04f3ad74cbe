use Rattle.std.proofs.Common.{◌≡◌, arith, subst, ℕ, length}
use Rattle.path_text.specs.{IsLastMove}
use Rattle.path_text.proofs.Last.{last_by_spans}
use Rattle.path_text.proofs.walk.last_move.Goals as goal

pub loop-owner-preserved : goal.loop-owner-preserved
loop-owner-preserved c p end h =
    last_by_spans p end c.loop-owner.owner c.args.spans.now c.index-spans-owner.result c.as_slice.result.now c.loop-owner.last
    c.with_module-last.result c.moving_end.result h (c.loop-owner.invariant p end h) (omega (arith, c.loop-owner-test.true))
    c.index-spans-owner.is c.as_slice.ensures c.moving_end.ensures c.with_module-last.ensures

pub returns : goal.returns
returns c p end h =
    let all : c.loop-owner.owner ≡ length c.args.spans.now = omega (arith, c.loop-owner-test.false, c.loop-owner.auto.owner-end) in
    subst (λ (n : ℕ). IsLastMove p end n c.loop-owner.last) all (c.loop-owner.invariant p end h)
