use Rattle.std.proofs.Common.{sym, subst, Option}
use Rattle.depth_cuts.specs.{Choice, IsBestSoFar, IsSearched}
use Rattle.depth_cuts.proofs.Found.{none_better}
use Rattle.depth_cuts.proofs.search.cannot_improve.Goals as goal

pub returns-then-is_no_worse-clause-yes : goal.returns-then-is_no_worse-clause-yes
returns-then-is_no_worse-clause-yes c is =
    let demands = c.args.demands.now in
    let kept = subst (IsBestSoFar demands) c.in-Some.is c.requires.kept in
    subst (λ (best : Option Choice). IsSearched demands c.args.at.now.depths best) (sym c.in-Some.is)
    (none_better demands c.in-Some.found c.args.at.now.depths (c.is_no_worse.ensures.yes demands.widths kept.bits c.requires.bits
    c.if-is_no_worse.true))
