use Rattle.std.proofs.lemmas.Option.{slice_get-get_or}
use Rattle.flow_word.specs.declared.access.Side.TheVariants.{Pop}
use Rattle.sim_core.proofs.Asking.{across_more, still_room}
use Rattle.sim_core.proofs.beside.add_across.Goals as goal

pub loop-port-preserved : goal.loop-port-preserved
loop-port-preserved c = (
  across_more c.args.plan.now c.args.ports.now c.loop-port.port-index c.loop-port.set c.add.new.self c.loop-port.invariant.1
      c.loop-port.invariant.0 _
      (slice_get-get_or c.args.ports.now c.loop-port.port-index (record { side = Pop; channel = 0 }) c.loop-port-test.true)
      c.across.result c.across.ensures c.add.ensures,
  still_room c.args.plan.now c.loop-port.set c.add.new.self c.add.ensures.room c.loop-port.invariant.1,
)
