use Rattle.std.proofs.{Common.refl, Common.◌<◌, Common.length, Common.max, Common.arith, Math.Seq.map-set_same, lemmas.List.length-map}
use Rattle.query_log.specs.{RoomyLog, Log, no_log, bare_log}
use Rattle.flow_word.proofs.Changed.{shown_set}
use Rattle.query_log.proofs.SoundLogs.{replaced, read_sound, read_log}
use Rattle.query_log.proofs.log.QueryLog.verify_up_to.Goals as goal

pub invariant_of-self : goal.invariant_of-self
invariant_of-self c =
    let items = c.self.inside.logs.items in
    let there : c.args.owner < length items = rw (← c.self.view_is, length-map) at c.requires.owner in
    let sound = read_sound items c.args.owner c.index_mut-log.result.now there c.index_mut-log.ensures.value c.self.invariant in
    let recorded = rw (← c.self.view_is, read_log items c.args.owner c.index_mut-log.result.now there c.index_mut-log.ensures.value) at
    c.requires.recorded in
    replaced items c.args.owner _ c.self.invariant (omega (arith, recorded, sound))

pub returns-clause-logs : goal.returns-clause-logs
returns-clause-logs c =
    let there : c.args.owner < length c.self.inside.logs.items = rw (← c.self.view_is, length-map) at c.requires.owner in
    rw (← c.self.view_is) (shown_set bare_log (λ (l : Log). record l { verified = max c.args.number l.verified }) c.self.inside.logs.items
    c.args.owner c.index_mut-log.result.now _ no_log there c.index_mut-log.ensures.value
    (rw c.max-log.ensures refl))

pub returns-clause-rooms : goal.returns-clause-rooms
returns-clause-rooms c =
    rw (← c.self.view_is) (map-set_same (λ (l : RoomyLog). l.outcomes.room) c.self.inside.logs.items c.args.owner _
    c.index_mut-log.result.now (rw (← c.index_mut-log.ensures.value) refl))
