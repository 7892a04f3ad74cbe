use Rattle.std.proofs.lemmas.List.Elements.{All-from_recursion}
use Rattle.lockstep_defs.specs.{history}
use Rattle.lockstep_defs.proofs.{Agrees.is_own_run, Order.in_order, Order.before_clock, Order.history_numbers, Order.only_history}
use Rattle.lockstep_defs.proofs.laws.histories_are_own_runs.Goals as goal

pub returns-clause-order : goal.returns-clause-order
returns-clause-order c = in_order

pub returns-clause-clocks : goal.returns-clause-clocks
returns-clause-clocks c = λ p b. All-from_recursion _ (history p b) (before_clock p b)

pub returns-clause-own : goal.returns-clause-own
returns-clause-own c = is_own_run

pub returns-clause-modules : goal.returns-clause-modules
returns-clause-modules c = λ p b. All-from_recursion _ (history p b) (history_numbers p b)

pub returns-clause-only : goal.returns-clause-only
returns-clause-only c = only_history
