use Rattle.std.proofs.Common.{length}
use Rattle.least_depths.specs.{lowered}
use Rattle.least_depths.proofs.{Least.lowered_first, Least.none_lower, Few.few_in_all}
use Rattle.least_depths.proofs.laws.lowered_depths_are_least.Goals as goal

pub returns-clause-depths : goal.returns-clause-depths
returns-clause-depths c p h clock n = (lowered_first p h clock n).lower.depths

pub returns-clause-lower : goal.returns-clause-lower
returns-clause-lower c p h clock n = (lowered_first p h clock n).lower.lower

pub returns-clause-in_time : goal.returns-clause-in_time
returns-clause-in_time c p h clock n = (lowered_first p h clock n).done

pub returns-clause-least : goal.returns-clause-least
returns-clause-least c p h none clock =
    let all = length p.design.channels in
    let x = lowered_first p h clock all in
    none_lower p h none clock (lowered p clock all).plan.depths x.lower.depths (x.least none)

pub returns-clause-few : goal.returns-clause-few
returns-clause-few c = few_in_all
