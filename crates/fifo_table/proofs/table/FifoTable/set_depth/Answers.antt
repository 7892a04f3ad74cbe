use Rattle.std.proofs.{Common.refl, Common.◌<◌, Common.length, Math.Seq.map-set_same, lemmas.List.length-map}
use Rattle.fifo_table.specs.{RoomyChannel, Channel, unused, deepened, channel_of, declared.channel.TableChannel.TheVariants.Sink}
use Rattle.flow_word.proofs.Changed.{shown_set}
use Rattle.fifo_table.proofs.SoundKinds.{replaced, read_kind, deepened_sound}
use Rattle.fifo_table.proofs.table.FifoTable.set_depth.Goals as goal

pub invariant_of-self : goal.invariant_of-self
invariant_of-self c =
    let items = c.self.inside.channels.items in
    let there : c.args.channel < length items = rw (← c.self.view_is, length-map) at c.requires.channel in
    let kind = read_kind items c.args.channel c.index_mut.result.now there c.index_mut.ensures.value c.self.invariant in
    replaced items c.args.channel c.set_depth.new.self c.self.invariant
    (rw c.set_depth.ensures (deepened_sound c.index_mut.result.now.kind c.args.depth kind c.requires.least c.requires.most))

pub returns-clause-channels : goal.returns-clause-channels
returns-clause-channels c =
    let there : c.args.channel < length c.self.inside.channels.items = rw (← c.self.view_is, length-map) at c.requires.channel in
    rw (← c.self.view_is) (shown_set channel_of (λ (a : Channel). record a { kind = deepened a.kind c.args.depth })
    c.self.inside.channels.items c.args.channel c.index_mut.result.now c.set_depth.new.self (unused Sink) there
    c.index_mut.ensures.value (rw c.set_depth.ensures refl))

pub returns-clause-push_rooms : goal.returns-clause-push_rooms
returns-clause-push_rooms c =
    rw (← c.self.view_is) (map-set_same (λ (a : RoomyChannel). a.pushes.room) c.self.inside.channels.items c.args.channel
    c.set_depth.new.self c.index_mut.result.now (rw (← c.index_mut.ensures.value, c.set_depth.ensures) refl))

pub returns-clause-pop_rooms : goal.returns-clause-pop_rooms
returns-clause-pop_rooms c =
    rw (← c.self.view_is) (map-set_same (λ (a : RoomyChannel). a.pops.room) c.self.inside.channels.items c.args.channel c.set_depth.new.self
    c.index_mut.result.now (rw (← c.index_mut.ensures.value, c.set_depth.ensures) refl))
