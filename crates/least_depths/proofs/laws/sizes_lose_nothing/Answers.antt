use Rattle.least_depths.specs.{advised, sizes}
use Rattle.least_depths.proofs.{Depths.same_depths, Sized.advised_sized, Sized.kept, Sized.least}
use Rattle.least_depths.proofs.laws.sizes_lose_nothing.Goals as goal

pub returns-clause-within : goal.returns-clause-within
returns-clause-within c slack p h = same_depths p (advised p) (sizes slack p).depths (advised_sized slack p h).depths

pub returns-clause-lower : goal.returns-clause-lower
returns-clause-lower c slack p h = (advised_sized slack p h).lower

pub returns-clause-told : goal.returns-clause-told
returns-clause-told c slack p h = (advised_sized slack p h).verdict

pub returns-clause-in_time : goal.returns-clause-in_time
returns-clause-in_time c slack p h = (advised_sized slack p h).in_time

pub returns-clause-kept : goal.returns-clause-kept
returns-clause-kept c = kept

pub returns-clause-least : goal.returns-clause-least
returns-clause-least c = least

pub returns-clause-few : goal.returns-clause-few
returns-clause-few c slack p h = (advised_sized slack p h).few
