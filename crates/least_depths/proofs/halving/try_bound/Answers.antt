use Rattle.std.proofs.Common.{◌∙◌, sym, subst, arith}
use Rattle.least_depths.specs.{FitsEngine}
use Rattle.least_depths.proofs.{Trying.edited_alike, Known.known_timely}
use Rattle.least_depths.proofs.halving.try_bound.Goals as goal

pub returns-then-branch-clause-alike : goal.returns-then-branch-clause-alike
returns-then-branch-clause-alike g c =
    edited_alike c.args.session.now.plan c.args.target.now.channel c.is_in_time.new.session.plan c.args.late_below
    c.in_ok-is_in_time.ensures.plan

pub returns-then-branch-clause-known : goal.returns-then-branch-clause-known
returns-then-branch-clause-known g c =
    let fits = subst FitsEngine c.core.ensures c.agrees.ensures.fits in
    known_timely c.args.session.now.plan fits (c.requires.quiet (omega (arith, c.if-late_below-le1.false)))
    c.args.target.now.clock c.args.target.now.channel c.args.late_below c.requires.depth c.requires.late
    (omega (arith, c.if-late_below-le1.false)) (sym c.in_ok-is_in_time.ensures.in_time ∙ c.if-branch.true)

pub returns-clause-alike : goal.returns-clause-alike
returns-clause-alike g c =
    edited_alike c.args.session.now.plan c.args.target.now.channel c.is_in_time.new.session.plan c.args.late_below
    c.in_ok-is_in_time.ensures.plan
