use Rattle.std.proofs.Common.{arith}
use Rattle.lockstep_defs.specs.{state}
use Rattle.lockstep_defs.proofs.{Counts.is_counted, Rules.keeps_ports}
use Rattle.lockstep_defs.proofs.Queue.{moves_once, conserved, pops_in_order, channel_count}
use Rattle.lockstep_defs.proofs.laws.channels_are_queues.Goals as goal

pub returns-clause-once : goal.returns-clause-once
returns-clause-once c = λ p h b side f. moves_once p (keeps_ports p h) b (state p b) side f

pub returns-clause-conserved : goal.returns-clause-conserved
returns-clause-conserved c = λ p h b f l. conserved p (keeps_ports p h) f (omega (arith, channel_count p)) b

pub returns-clause-in_order : goal.returns-clause-in_order
returns-clause-in_order c = λ p h b f l. pops_in_order p (keeps_ports p h) f (omega (arith, channel_count p)) b

pub returns-clause-counted : goal.returns-clause-counted
returns-clause-counted c = is_counted
