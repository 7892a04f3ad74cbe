use Rattle.depth_cuts.proofs.Found.{one_more_met, met_there}
use Rattle.std.proofs.Common.{arith, ◌+◌, ◌≡◌, suc, subst, ℕ}
use Rattle.depth_cuts.specs.{MeetsBetween}
use Rattle.depth_cuts.proofs.cuts.first_unmet.Goals as goal

pub loop-place-preserved : goal.loop-place-preserved
loop-place-preserved c =
    let cuts = c.args.cuts.now in
    let n = c.loop-place.place in
    let ds = c.args.depths.now in
    let next : suc n ≡ n + 1 = omega arith in
    subst (λ (k : ℕ). MeetsBetween cuts c.args.from k ds) next
    (one_more_met cuts c.args.from n ds c.loop-place.invariant
    (met_there cuts n c.index-cuts-place.result ds c.loop-place-test.true c.index-cuts-place.is (c.is_met.ensures.met
    c.if-not-is_met.false)))
