use Rattle.std.proofs.Common.{◌≡◌, refl, sym, ap, ◌∙◌, List, arith}
use Rattle.std.proofs.{lemmas.Bool.both_ways, lemmas.List.get_or-set_other}
use Rattle.engine_view.specs.{ModuleState, Access, Step, Design, IsDesign, no_log, step_of, held_in, IsKept, first_of, in_lane}
use Rattle.engine_view.proofs.{Unsure.IsFresh, Unsure.answered_on, Confirming.fresh_in, engine.Engine.record_outcomes.Goals.After-look-step}
use Rattle.engine_view.proofs.Resolving as resolving
use Rattle.engine_view.proofs.engine.Engine.record_outcomes.Goals as goal

-- the module's first step without a cycle
module _ (c : After-look-step) where
  step : step_of (held_in c.args.self.now) c.args.owner (first_of (held_in c.args.self.now) c.args.owner) ≡ in_lane c.look-step.result
  step = resolving.first_is (held_in c.args.self.now) c.args.owner c.frontier.ensures.count c.look-step.ensures.step

  accesses : {xs : List Access} → xs ≡ (in_lane c.look-step.result).accesses
      → (step_of (held_in c.args.self.now) c.args.owner (first_of (held_in c.args.self.now) c.args.owner)).accesses ≡ xs
  accesses e = ap (λ (t : Step). t.accesses) step ∙ sym e

  fresh : {d : Design ModuleState} → IsDesign d → IsKept d (held_in c.args.self.now)
      → IsFresh d (held_in c.args.self.now) c.args.owner
  fresh i k = fresh_in c.args.self.now c.requires.unsure i k c.requires.fresh

pub write_outcomes-requires-clause-verified : goal.write_outcomes-requires-clause-verified
write_outcomes-requires-clause-verified c =
    let at = (goal.at.write_outcomes-requires-clause-verified c).After-look-step in
    let (d, i, k, r) = c.requires.core in
    resolving.fresh_verified (fresh at i k) c.args.cycle

pub write_outcomes-requires-clause-inside : goal.write_outcomes-requires-clause-inside
write_outcomes-requires-clause-inside c =
    let at = (goal.at.write_outcomes-requires-clause-inside c).After-look-step in
    let (d, i, k, r) = c.requires.core in
    rw (accesses at refl) at (resolving.fresh_inside (fresh at i k) c.args.cycle)

pub write_outcomes-requires-clause-places : goal.write_outcomes-requires-clause-places
write_outcomes-requires-clause-places c = let (d, i, k, r) = c.requires.core in k.sound.places

pub write_outcomes-requires-clause-owner : goal.write_outcomes-requires-clause-owner
write_outcomes-requires-clause-owner c =
    let at = (goal.at.write_outcomes-requires-clause-owner c).After-look-step in
    let (d, i, k, r) = c.requires.core in
    resolving.fresh_owner (fresh at i k) c.args.cycle

pub write_outcomes-requires-clause-room : goal.write_outcomes-requires-clause-room
write_outcomes-requires-clause-room c =
    let at = (goal.at.write_outcomes-requires-clause-room c).After-look-step in
    let (d, i, k, r) = c.requires.core in
    rw (accesses at refl) at (resolving.fresh_log_room (fresh at i k) c.args.cycle r)

pub take_all-requires-clause-accesses : goal.take_all-requires-clause-accesses
take_all-requires-clause-accesses c =
    let at = (goal.at.take_all-requires-clause-accesses c).After-look-step in
    let (d, i, k, r) = c.requires.core in
    rw (accesses at refl) at (resolving.fresh_takes (fresh at i k) c.args.cycle r refl)

pub take_all-requires-clause-few : goal.take_all-requires-clause-few
take_all-requires-clause-few c =
    let at = (goal.at.take_all-requires-clause-few c).After-look-step in
    let (d, i, k, r) = c.requires.core in
    let few = resolving.fresh_few (fresh at i k) c.args.cycle r in
    let first = ap (λ (t : Step). t.first_query) (step at) in
    let short = c.look-step.ensures.sound.accesses in
    omega arith

pub returns-clause-answered : goal.returns-clause-answered
returns-clause-answered c = λ d i k.
    let at = (goal.at.returns-clause-answered c).After-look-step in
    let f = fresh at i k in
    rw (resolving.after_is f c.args.cycle c.frontier.ensures.count (step at) refl refl
    c.write_outcomes.ensures.logs c.take_all.ensures.channels)
    (answered_on d (held_in c.args.self.now) c.args.owner c.args.cycle _ f.unsure (λ e. absurd (both_ways _ f.fresh e))
    (resolving.fresh_core f c.args.cycle))

pub returns-clause-room : goal.returns-clause-room
returns-clause-room c = record {
  ends = refl;
  credits = refl;
  room = λ d i k r.
      let at = (goal.at.returns-clause-room c).After-look-step in
      let f = fresh at i k in
      rw (resolving.after_is f c.args.cycle c.frontier.ensures.count (step at) refl refl
      c.write_outcomes.ensures.logs c.take_all.ensures.channels)
      (resolving.room_answered f c.args.cycle r c.take_all.ensures.one
      (λ side ch q. c.take_all.ensures.others side ch (rw (accesses at refl) at q)) c.write_outcomes.ensures.other_rooms);
}

pub returns-clause-others : goal.returns-clause-others
returns-clause-others c = λ m apart.
    rw c.write_outcomes.ensures.logs (get_or-set_other c.args.self.now.log.logs c.args.owner m _ no_log apart)
