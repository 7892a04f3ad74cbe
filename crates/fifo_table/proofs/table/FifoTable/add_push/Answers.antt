use Rattle.std.proofs.Common.{refl, ap, List, ◌++◌, [], ◌∷◌, ◌<◌, length}
use Rattle.std.proofs.{Math.Seq.map-set_same, lemmas.List.length-map, lemmas.Result.on_ok_weaker, lemmas.Result.on_err_weaker}
use Rattle.fifo_table.specs.{RoomyChannel, Channel, unused, push_of, channel_of, Pushed, declared.channel.TableChannel.TheVariants.Sink}
use Rattle.flow_word.proofs.Changed.{shown_set, used_place}
use Rattle.fifo_table.proofs.SoundKinds.{replaced, read_kind}
use Rattle.fifo_table.proofs.table.FifoTable.add_push.Goals as goal

pub invariant_of-self : goal.invariant_of-self
invariant_of-self c =
    let there : c.args.channel < length c.self.inside.channels.items = rw (← c.self.view_is, length-map) at c.requires.channel in
    replaced c.self.inside.channels.items c.args.channel _ c.self.invariant (read_kind c.self.inside.channels.items c.args.channel
    c.index_mut.result.now there c.index_mut.ensures.value c.self.invariant)

pub returns-clause-ok : goal.returns-clause-ok
returns-clause-ok c =
    let there : c.args.channel < length c.self.inside.channels.items = rw (← c.self.view_is, length-map) at c.requires.channel in
    rw (← c.self.view_is) (on_ok_weaker c.push.result
    (λ more. shown_set channel_of (λ (a : Channel). record a { pushes = a.pushes ++ (push_of c.args.at c.args.value) ∷ [] })
    c.self.inside.channels.items c.args.channel c.index_mut.result.now _ (unused Sink) there c.index_mut.ensures.value
    (ap (λ (xs : List Pushed). record (channel_of c.index_mut.result.now) { pushes = xs }) more)) c.push.ensures.ok)

pub returns-clause-err : goal.returns-clause-err
returns-clause-err c =
    rw (← c.self.view_is) (on_err_weaker c.push.result (λ same. map-set_same channel_of c.self.inside.channels.items c.args.channel _
    c.index_mut.result.now (rw (← c.index_mut.ensures.value, same) refl)) c.push.ensures.err)

pub returns-clause-push_rooms : goal.returns-clause-push_rooms
returns-clause-push_rooms c =
    let there : c.args.channel < length c.self.inside.channels.items = rw (← c.self.view_is, length-map) at c.requires.channel in
    rw (← c.self.view_is) (used_place (λ (a : RoomyChannel). a.pushes.room) c.self.inside.channels.items c.args.channel
    c.index_mut.result.now (record c.index_mut.result.now { pushes = c.push.new.self }) there c.index_mut.ensures.value
    c.push.ensures.room)

pub returns-clause-pop_rooms : goal.returns-clause-pop_rooms
returns-clause-pop_rooms c =
    rw (← c.self.view_is) (map-set_same (λ (a : RoomyChannel). a.pops.room) c.self.inside.channels.items c.args.channel _
    c.index_mut.result.now (rw (← c.index_mut.ensures.value) refl))
