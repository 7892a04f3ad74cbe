use Rattle.std.proofs.Common.{ℕ, List, sym, ap, subst}
use Rattle.least_memory.specs.{verdict, with_depths, AreDepths, IsDoneBy, Cut, IsNeeded, IsOutcome, IsTimely}
use Rattle.least_memory.proofs.{Needed.cheapest_depths, Shown.one_more_needed, Least.cheapest_least}
use Rattle.least_memory.proofs.finding.fewest_bits.Goals as goal

pub try_depths-requires-clause-depths : goal.try_depths-requires-clause-depths
try_depths-requires-clause-depths g c = λ κs outlives.
    let p = c.args.core.now.plan in
    subst (AreDepths p) (sym c.as_slice.ensures)
    (cheapest_depths p c.agrees.ensures.fits c.args.clock c.loop-demands.demands c.loop-demands.invariant c.in_ok-depths.depths
    c.in_ok-depths.ensures)

pub returns-in-Ended-clause-least : goal.returns-in-Ended-clause-least
returns-in-Ended-clause-least g c =
    let p = c.args.core.now.plan in
    let clock = c.args.clock in
    let timely : IsTimely p clock c.as_slice.result.now c.in-Ended.verdict =
    subst (IsOutcome p clock c.as_slice.result.now) c.in-Ended.is c.in_ok-cut.ensures in
    let done : IsDoneBy clock (verdict (with_depths p c.as_slice.result.now)) = subst (IsDoneBy clock) timely.told timely.done in
    cheapest_least p c.agrees.ensures.fits clock c.loop-demands.demands c.loop-demands.invariant c.in_ok-depths.depths
    c.in_ok-depths.ensures
    (subst (λ (ds : List ℕ). IsDoneBy clock (verdict (with_depths p ds))) c.as_slice.ensures done)

pub loop-demands-preserved : goal.loop-demands-preserved
loop-demands-preserved g c =
    let p = c.args.core.now.plan in
    let clock = c.args.clock in
    let old = c.loop-demands.demands in
    let needed : IsNeeded p clock c.in-Late.cut = subst (IsOutcome p clock c.as_slice.result.now) c.in-Late.is c.in_ok-cut.ensures in
    one_more_needed p clock old (record old { cuts = c.push.new.self }) c.in-Late.cut c.loop-demands.invariant needed
    (ap (λ (cuts : List Cut). record old { cuts = cuts }) c.in_ok-push-in-Late.ensures.ok)
