use Rattle.std.proofs.{Common.refl, Common.◌+◌, Common.◌<◌, Common.length, Common.arith, Math.Seq.map-set_same, lemmas.List.length-map}
use Rattle.query_log.specs.{RoomyLog, Log, no_log, bare_log}
use Rattle.flow_word.proofs.Changed.{shown_set}
use Rattle.query_log.proofs.SoundLogs.{replaced, read_log}
use Rattle.query_log.proofs.log.QueryLog.verify_next.Goals as goal

pub verify_next-requires : goal.verify_next-requires
verify_next-requires c =
    let there : c.args.owner < length c.self.inside.logs.items = rw (← c.self.view_is, length-map) at c.requires.owner in
    rw (← c.self.view_is, read_log c.self.inside.logs.items c.args.owner c.index_mut.result.now there c.index_mut.ensures.value) at
    c.requires.assumed

pub invariant_of-self : goal.invariant_of-self
invariant_of-self c =
    let there : c.args.owner < length c.self.inside.logs.items = rw (← c.self.view_is, length-map) at c.requires.owner in
    let assumed = rw (
      ← c.self.view_is,
      read_log c.self.inside.logs.items c.args.owner c.index_mut.result.now there
          c.index_mut.ensures.value,
    ) at c.requires.assumed in
    replaced c.self.inside.logs.items c.args.owner c.verify_next.new.self c.self.invariant
    (rw c.verify_next.ensures (omega (arith, assumed)))

pub returns-clause-logs : goal.returns-clause-logs
returns-clause-logs c =
    let there : c.args.owner < length c.self.inside.logs.items = rw (← c.self.view_is, length-map) at c.requires.owner in
    rw (← c.self.view_is) (shown_set bare_log (λ (l : Log). record l { verified = l.verified + 1 }) c.self.inside.logs.items c.args.owner
    c.index_mut.result.now _ no_log there c.index_mut.ensures.value (rw c.verify_next.ensures refl))

pub returns-clause-rooms : goal.returns-clause-rooms
returns-clause-rooms c =
    rw (← c.self.view_is) (map-set_same (λ (l : RoomyLog). l.outcomes.room) c.self.inside.logs.items c.args.owner _ c.index_mut.result.now
    (rw (← c.index_mut.ensures.value, c.verify_next.ensures) refl))
