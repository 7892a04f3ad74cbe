use Rattle.std.proofs.Common.{ap, length, arith}
use Rattle.engine_view.specs.{Port}
use Rattle.flow_word.specs.declared.access.Side.TheVariants.{Pop}
use Rattle.engine_view.proofs.Reserving.{reserves_init, reserves_more, reserves_all}
use Rattle.engine_view.proofs.room.reserve_ports.Goals as goal

abbrev no_port : Port
no_port = record { side = Pop; channel = 0 }

pub loop-port-init : goal.loop-port-init
loop-port-init c = reserves_init c.args.places c.args.ports.now c.args.fifos.now

pub reserve_port-requires : goal.reserve_port-requires
reserve_port-requires c =
    let inside = c.requires.ports c.loop-port.port-index no_port c.loop-port-test.true in
    let same = ap length c.loop-port.invariant.channels in
    omega arith

pub loop-port-preserved : goal.loop-port-preserved
loop-port-preserved c =
    reserves_more c.args.places c.args.ports.now c.args.fifos.now c.loop-port.fifos c.reserve_port.new.fifos c.loop-port.port-index no_port
    c.loop-port.invariant c.loop-port-test.true
    c.reserve_port.ensures.channels c.reserve_port.ensures.kept c.in_ok-reserve_port.ensures.room

pub returns-clause-room : goal.returns-clause-room
returns-clause-room c = reserves_all c.args.places c.args.ports.now c.args.fifos.now c.loop-port.fifos c.loop-port.port-index
    c.loop-port.invariant
    c.loop-port-test.false
