use Rattle.std.proofs.{Common.refl, Common.◌<◌, Common.length, Math.Seq.map-set_same, lemmas.List.length-map, lemmas.Result.on_ok_weaker}
use Rattle.query_log.specs.{RoomyLog, bare_log}
use Rattle.flow_word.proofs.Changed.{shown_new, shown_kept}
use Rattle.query_log.proofs.SoundLogs.{replaced, read_sound}
use Rattle.query_log.proofs.log.QueryLog.reserve.Goals as goal

pub invariant_of-self : goal.invariant_of-self
invariant_of-self c =
    let there : c.args.owner < length c.self.inside.logs.items = rw (← c.self.view_is, length-map) at c.requires in
    let sound = read_sound c.self.inside.logs.items c.args.owner c.index_mut.result.now there c.index_mut.ensures.value c.self.invariant in
    replaced c.self.inside.logs.items c.args.owner _ c.self.invariant (rw c.reserve.ensures.items sound)

pub returns-clause-logs : goal.returns-clause-logs
returns-clause-logs c =
    rw (← c.self.view_is) (map-set_same bare_log c.self.inside.logs.items c.args.owner _ c.index_mut.result.now
    (rw (← c.index_mut.ensures.value, c.reserve.ensures.items) refl))

pub returns-clause-room : goal.returns-clause-room
returns-clause-room c =
    let there : c.args.owner < length c.self.inside.logs.items = rw (← c.self.view_is, length-map) at c.requires in
    on_ok_weaker c.reserve.result (λ room. rw (shown_new (λ (l : RoomyLog). l.outcomes.room) c.self.inside.logs.items c.args.owner _ there)
    room) c.reserve.ensures.room

pub returns-clause-kept : goal.returns-clause-kept
returns-clause-kept c =
    let there : c.args.owner < length c.self.inside.logs.items = rw (← c.self.view_is, length-map) at c.requires in
    rw (← c.self.view_is) (shown_kept (λ (l : RoomyLog). l.outcomes.room) c.self.inside.logs.items c.args.owner c.index_mut.result.now _
    there c.index_mut.ensures.value c.reserve.ensures.kept)
