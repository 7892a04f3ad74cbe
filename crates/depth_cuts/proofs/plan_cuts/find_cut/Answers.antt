use Rattle.std.proofs.Common.{List, length, subst, ℕ}
use Rattle.depth_cuts.specs.{AreRaised, AreNext}
use Rattle.depth_cuts.proofs.Needed.{cut_shown}
use Rattle.depth_cuts.proofs.plan_cuts.find_cut.Goals as goal

pub returns : goal.returns
returns c = λ p f quiet deepest fit.
    let trail = c.raise_all.new.trail in
    let raised = subst (AreRaised c.args.depths.now) c.as_slice.ensures (c.are_raised.ensures c.if-not-are_raised.false) in
    let next = subst (λ (zs : List ℕ). AreNext zs (length zs) c.in_ok-cut.cut.needs) c.as_slice-2.ensures c.in_ok-cut.ensures in
    cut_shown p c.args.engine.now f quiet deepest
    c.args.depths.now trail.depths fit raised c.in_ok-cut.cut next c.args.clock (λ t. c.is_late.ensures c.if-not-is_late.false p t)
