use Rattle.time_engine.proofs.Enabling.{event_has_step}
use Rattle.retime.proofs.Events.{fifo_has_side}
use Rattle.retime.proofs.touched.event_cycle.Goals as goal

pub enabler-requires-clause-side : goal.enabler-requires-clause-side
enabler-requires-clause-side c = fifo_has_side _ c.args.side c.requires.fifo

pub cycle_of-requires : goal.cycle_of-requires
cycle_of-requires c =
    event_has_step c.args.graph.now.lanes c.args.fifos.now.channels c.args.channel c.args.side c.args.n c.in-Event.place c.requires.channel
    c.requires.places (cc)
