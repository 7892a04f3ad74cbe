use Rattle.std.proofs.Common.{ap, ◌<◌, sym, subst, ◌∙◌, length, arith}
use Rattle.std.proofs.{lemmas.List.length-map, lemmas.List.get_or-map, lemmas.Grind.common_steps}
use Rattle.std.proofs.lemmas.Option.{get_or_from_slice_get, slice_get-get_or, slice_get_within}
use Rattle.engine_report.specs.{Pushed, channel_at, unused, HasStep, cycle_of}
use Rattle.fifo_table.specs.declared.channel.TableChannel.TheVariants.{Sink}
use Rattle.flow_word.specs.declared.access.Side.TheVariants.{Push}
use Rattle.std.specs.Prelude.{is_some}
use Rattle.engine_report.proofs.Loops.{front_more}
use Rattle.engine_report.proofs.outputs.timed_values.Goals.{else-loop-before-test, then-loop-before-test+in_default}
use Rattle.engine_report.proofs.outputs.timed_values.Goals.{then-loop-before-test+in-Some+then-is_none}
use Rattle.engine_report.proofs.outputs.timed_values.Goals as goal

abbrev no_push : Pushed
no_push = record { at = record { «module» = 0; step = 0 }; value = 0 }

pub cycle_of-requires : goal.cycle_of-requires
cycle_of-requires c =
    let pushes = (channel_at c.args.engine.now.fifos.channels c.args.channel).pushes in
    let at = c.loop-before.before in
    let push = c.in-Some.push in
    let there = slice_get_within pushes at push (sym c.in-Some.ensures) in
    subst (HasStep c.args.engine.now.graph.lanes)
    (get_or-map (λ (e : Pushed). e.at) pushes at push push.at there
    ∙ ap (λ (e : Pushed). e.at) (get_or_from_slice_get pushes at push push (sym c.in-Some.ensures)))
    (c.requires.places.each c.args.channel (unused Sink) c.requires.channel Push at push.at
    (omega (arith, length-map pushes (λ (e : Pushed). e.at))))

pub loop-before-preserved : goal.loop-before-preserved
loop-before-preserved c =
    let lanes = c.args.engine.now.graph.lanes in
    let pushes = (channel_at c.args.engine.now.fifos.channels c.args.channel).pushes in
    let push = c.in-Some.push in
    let is = get_or_from_slice_get pushes c.loop-before.before push push (sym c.in-Some.ensures) in
    let more = front_more (λ (e : Pushed). is_some (cycle_of lanes e.at)) pushes c.loop-before.before push
    (slice_get_within pushes c.loop-before.before push (sym c.in-Some.ensures)) in
    grind (arith, common_steps)

pub returns : goal.returns
returns c =
    let lanes = c.args.engine.now.graph.lanes in
    let pushes = (channel_at c.args.engine.now.fifos.channels c.args.channel).pushes in
    let at = c.loop-before.before in
    let count = length-map pushes (λ (e : Pushed). e.at) in
    elim c.loop-before-test.branch [
      | else-loop-before-test w ↦ grind (arith, common_steps)
      | then-loop-before-test+in_default w ↦
          let there : at < length pushes = omega (arith, count) in
          absurd (w.in_default.not-Some _ (w.pushed.ensures ∙ slice_get-get_or pushes at no_push there))
      | then-loop-before-test+in-Some+then-is_none w ↦
          let is = get_or_from_slice_get pushes at w.in-Some.push w.in-Some.push (sym w.in-Some.ensures) in
          let more = front_more (λ (e : Pushed). is_some (cycle_of lanes e.at)) pushes at w.in-Some.push
          (slice_get_within pushes at w.in-Some.push (sym w.in-Some.ensures)) in
          grind (arith, common_steps)
    ]
