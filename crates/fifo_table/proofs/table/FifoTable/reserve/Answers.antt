use Rattle.std.proofs.{Common.ap, Common.◌<◌, Common.length, Math.Seq.map-set_same, lemmas.List.length-map, lemmas.Result.on_ok_weaker}
use Rattle.fifo_table.specs.{RoomyChannel, Channel, channel_of}
use Rattle.flow_word.proofs.Changed.{shown_new, shown_kept}
use Rattle.fifo_table.proofs.SoundKinds.{replaced, read_kind}
use Rattle.fifo_table.proofs.table.FifoTable.reserve.Goals as goal

pub invariant_of-self : goal.invariant_of-self
invariant_of-self c =
    let there : c.args.channel < length c.self.inside.channels.items = rw (← c.self.view_is, length-map) at c.requires in
    let kind = read_kind c.self.inside.channels.items c.args.channel c.index_mut.result.now there c.index_mut.ensures.value
    c.self.invariant in
    let same = ap (λ (a : Channel). a.kind) c.reserve.ensures.channel in
    replaced c.self.inside.channels.items c.args.channel c.reserve.new.self c.self.invariant (rw same kind)

pub returns-clause-channels : goal.returns-clause-channels
returns-clause-channels c =
    rw (← c.self.view_is) (map-set_same channel_of c.self.inside.channels.items c.args.channel c.reserve.new.self c.index_mut.result.now
    (rw (← c.index_mut.ensures.value) c.reserve.ensures.channel))

pub returns-clause-push_room : goal.returns-clause-push_room
returns-clause-push_room c =
    let there : c.args.channel < length c.self.inside.channels.items = rw (← c.self.view_is, length-map) at c.requires in
    on_ok_weaker c.reserve.result (λ room. rw (shown_new (λ (a : RoomyChannel). a.pushes.room) c.self.inside.channels.items c.args.channel
    c.reserve.new.self there) room) c.reserve.ensures.push_room

pub returns-clause-pop_room : goal.returns-clause-pop_room
returns-clause-pop_room c =
    let there : c.args.channel < length c.self.inside.channels.items = rw (← c.self.view_is, length-map) at c.requires in
    on_ok_weaker c.reserve.result (λ room. rw (shown_new (λ (a : RoomyChannel). a.pops.room) c.self.inside.channels.items c.args.channel
    c.reserve.new.self there) room) c.reserve.ensures.pop_room

pub returns-clause-pushes_kept : goal.returns-clause-pushes_kept
returns-clause-pushes_kept c =
    let there : c.args.channel < length c.self.inside.channels.items = rw (← c.self.view_is, length-map) at c.requires in
    rw (← c.self.view_is) (shown_kept (λ (a : RoomyChannel). a.pushes.room) c.self.inside.channels.items c.args.channel
    c.index_mut.result.now c.reserve.new.self there c.index_mut.ensures.value c.reserve.ensures.pushes_kept)

pub returns-clause-pops_kept : goal.returns-clause-pops_kept
returns-clause-pops_kept c =
    let there : c.args.channel < length c.self.inside.channels.items = rw (← c.self.view_is, length-map) at c.requires in
    rw (← c.self.view_is) (shown_kept (λ (a : RoomyChannel). a.pops.room) c.self.inside.channels.items c.args.channel c.index_mut.result.now
    c.reserve.new.self there c.index_mut.ensures.value c.reserve.ensures.pops_kept)
