use Rattle.std.proofs.{Common.◌<◌, Common.length, lemmas.List.length-map}
use Rattle.query_log.specs.{RoomyLog, Log, no_log, verified_more, bare_log}
use Rattle.flow_word.proofs.Changed.{shown_set, shown_old, used_place}
use Rattle.query_log.proofs.SoundLogs.{replaced, read_sound, read_log, answered_sound}
use Rattle.query_log.proofs.log.QueryLog.add.Goals as goal

pub add-requires : goal.add-requires
add-requires c =
    let there : c.args.owner < length c.self.inside.logs.items = rw (← c.self.view_is, length-map) at c.requires.owner in
    record {
      room = rw (
        ← c.self.view_is,
        shown_old (λ (l : RoomyLog). l.outcomes.room) c.self.inside.logs.items c.args.owner
            c.index_mut.result.now there c.index_mut.ensures.value,
      ) at c.requires.room;
      verified = rw (
        ← c.self.view_is,
        read_log c.self.inside.logs.items c.args.owner c.index_mut.result.now there
            c.index_mut.ensures.value,
      ) at c.requires.verified;
    }

pub invariant_of-self : goal.invariant_of-self
invariant_of-self c =
    let there : c.args.owner < length c.self.inside.logs.items = rw (← c.self.view_is, length-map) at c.requires.owner in
    let sound = read_sound c.self.inside.logs.items c.args.owner c.index_mut.result.now there c.index_mut.ensures.value c.self.invariant in
    replaced c.self.inside.logs.items c.args.owner c.add.new.self c.self.invariant (answered_sound _ _ c.args.yes c.add.ensures.log sound)

pub returns-clause-logs : goal.returns-clause-logs
returns-clause-logs c =
    let there : c.args.owner < length c.self.inside.logs.items = rw (← c.self.view_is, length-map) at c.requires.owner in
    rw (← c.self.view_is) (shown_set bare_log (λ (l : Log). verified_more l c.args.yes) c.self.inside.logs.items c.args.owner
    c.index_mut.result.now c.add.new.self no_log there c.index_mut.ensures.value c.add.ensures.log)

pub returns-clause-rooms : goal.returns-clause-rooms
returns-clause-rooms c =
    let there : c.args.owner < length c.self.inside.logs.items = rw (← c.self.view_is, length-map) at c.requires.owner in
    rw (← c.self.view_is) (used_place (λ (l : RoomyLog). l.outcomes.room) c.self.inside.logs.items c.args.owner
    c.index_mut.result.now c.add.new.self there c.index_mut.ensures.value c.add.ensures.room)
