use Rattle.std.proofs.Common.{refl, ◌∙◌, ◌<◌, length, arith}
use Rattle.sim_core.proofs.{Asking.beside_more, Asking.still_room, Ports.all_within}
use Rattle.sim_core.proofs.beside.find_beside.Goals as goal

pub add_across-requires-clause-within : goal.add_across-requires-clause-within
add_across-requires-clause-within c =
    all_within c.args.plan.now c.loop-owner.owner (length c.args.plan.now.design.channels) c.ports_of.result.now refl
    (c.ports_of.ensures ∙ c.requires.ports.each c.loop-owner.owner
    (let a = c.loop-owner-test.true in let b = c.loop-owner.auto.owner-end in let e = c.len-owner-end.ensures in
    let n = c.requires.ports.count in omega arith))

pub add_across-requires-clause-room : goal.add_across-requires-clause-room
add_across-requires-clause-room c = still_room c.args.plan.now _ _ c.clear.ensures.room c.loop-owner.invariant.1

pub loop-owner-preserved : goal.loop-owner-preserved
loop-owner-preserved c =
    let within : c.loop-owner.owner < length c.args.plan.now.design.modules =
    (let a = c.loop-owner-test.true in let b = c.loop-owner.auto.owner-end in let e = c.len-owner-end.ensures in
    let n = c.requires.ports.count in omega arith) in (
      beside_more c.args.plan.now c.fits.ensures c.loop-owner.owner within c.loop-owner.beside c.push.new.self
          c.in_ok-masks.masks c.loop-owner.invariant.0 c.in_ok-push.ensures.ok c.ports_of.result.now
          (c.ports_of.ensures ∙ c.requires.ports.each c.loop-owner.owner within) c.add_across.new.set c.add_across.ensures.across
          c.in_ok-masks.ensures,
      c.add_across.ensures.room,
    )
