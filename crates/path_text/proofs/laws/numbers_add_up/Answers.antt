use Rattle.path_text.proofs.Sums.{numbers_to, no_numbers, no_waiting, numbers_whole}
use Rattle.path_text.proofs.laws.numbers_add_up.Goals as goal

pub returns-clause-last_move : goal.returns-clause-last_move
returns-clause-last_move c = numbers_to

pub returns-clause-none : goal.returns-clause-none
returns-clause-none c = no_numbers

pub returns-clause-whole : goal.returns-clause-whole
returns-clause-whole c = numbers_whole

pub returns-clause-without_polls : goal.returns-clause-without_polls
returns-clause-without_polls c = no_waiting
