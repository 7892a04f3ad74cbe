use Rattle.least_memory.proofs.Least.{leasts_within, leasts_told, leasts_in_time, leasts_least}
use Rattle.least_memory.proofs.laws.least_memory_is_least.Goals as goal

pub returns-clause-within : goal.returns-clause-within
returns-clause-within c = leasts_within

pub returns-clause-told : goal.returns-clause-told
returns-clause-told c = leasts_told

pub returns-clause-in_time : goal.returns-clause-in_time
returns-clause-in_time c = leasts_in_time

pub returns-clause-least : goal.returns-clause-least
returns-clause-least c = leasts_least
