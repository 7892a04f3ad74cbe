use Rattle.std.proofs.Common.{arith}
use Rattle.cycle_changes.specs.{Place, held_in, IsLooked}
use Rattle.cycle_changes.proofs.SoFar.{all_more, all_there}
use Rattle.cycle_changes.proofs.check.are_right.Goals as goal

pub loop-place-preserved : goal.loop-place-preserved
loop-place-preserved c =
    all_more (λ (p : Place). IsLooked (held_in c.args.engine.now) p.module p.step) c.args.places.now c.loop-place.place-index _
    c.loop-place-test.true c.loop-place.invariant (c.is_right.ensures c.if-not-is_right.false)

pub returns : goal.returns
returns c = λ yes.
    all_there (λ (p : Place). IsLooked (held_in c.args.engine.now) p.module p.step) c.args.places.now c.loop-place.place-index
    (omega (arith, c.loop-place-test.false)) c.loop-place.invariant
