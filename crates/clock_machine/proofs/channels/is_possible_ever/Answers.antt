use Rattle.std.proofs.Common.{ap, sym, not, nat_lt, ◌∙◌}
use Rattle.lockstep_defs.proofs.Settled.{full_ready}
use Rattle.clock_machine.proofs.Moving.{there_ever}
use Rattle.clock_machine.proofs.channels.is_possible_ever.Goals as goal

pub returns-in-Pop : goal.returns-in-Pop
returns-in-Pop c = rw c.in-Pop.is (ap (nat_lt 0) c.fill_of.ensures ∙ there_ever c.args.contents.now c.args.channel)

pub returns-in-Push : goal.returns-in-Push
returns-in-Push c = rw c.in-Push.is (ap not (c.is_full.ensures ∙ sym (full_ready c.args.plan.now c.args.contents.now c.args.channel)))
