use Rattle.lockstep_defs.proofs.{Once.takers_once, Once.asks_once, Rules.keeps_ports, Standing.due_in_range, Standing.requests_stand}
use Rattle.lockstep_defs.proofs.States.{opened_state, move_state, history_state}
use Rattle.lockstep_defs.proofs.laws.states_fit_modules.Goals as goal

pub returns-clause-opened : goal.returns-clause-opened
returns-clause-opened c = opened_state

pub returns-clause-moved : goal.returns-clause-moved
returns-clause-moved c = move_state

pub returns-clause-history : goal.returns-clause-history
returns-clause-history c = history_state

pub returns-clause-due : goal.returns-clause-due
returns-clause-due c = due_in_range

pub returns-clause-requests : goal.returns-clause-requests
returns-clause-requests c = requests_stand

pub returns-clause-queries : goal.returns-clause-queries
returns-clause-queries c = λ p h. asks_once p (keeps_ports p h)

pub returns-clause-takers : goal.returns-clause-takers
returns-clause-takers c = λ p h. takers_once p (keeps_ports p h)
