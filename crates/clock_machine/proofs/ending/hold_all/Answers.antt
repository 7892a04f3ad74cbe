use Rattle.std.proofs.Common.{ap, length, ◌∙◌, arith}
use Rattle.std.specs.List.{filter_map}
use Rattle.clock_machine.specs.{nobody, all_ready, numbered, held_by}
use Rattle.clock_machine.proofs.{Fronts.kept_more, Fronts.numbered_all, Moving.held_ever}
use Rattle.clock_machine.proofs.ending.hold_all.Goals as goal

pub loop-i-preserved : goal.loop-i-preserved
loop-i-preserved c =
    let p = c.args.of.now.plan.now in
    kept_more (held_by p 0 (all_ready c.args.state.now.contents)) c.args.state.now.modules c.loop-i.i nobody c.loop-i.held
    c.hold_one.new.held (omega (arith, ap length c.as_slice-count.ensures)) c.loop-i.invariant c.in_ok-hold_one.ensures

pub returns : goal.returns
returns c clock =
    let p = c.args.of.now.plan.now in
    c.loop-i.invariant
    ∙ (ap (filter_map (held_by p 0 (all_ready c.args.state.now.contents)))
    (numbered_all c.args.state.now.modules c.loop-i.i (omega (arith, ap length c.as_slice-count.ensures)))
    ∙ held_ever p clock c.args.state.now.contents (numbered c.args.state.now))
