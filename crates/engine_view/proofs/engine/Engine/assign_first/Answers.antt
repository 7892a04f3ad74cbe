use Rattle.std.proofs.{Common.◌≡◌, Common.refl, Common.sym, Common.◌∙◌, Common.true, Common.Some, lemmas.Bool.and_parts}
use Rattle.engine_view.specs.{log_at, MayTake, determined, step_of, are_among, held_in, first_of}
use Rattle.time_engine.proofs.Candidates.{determined_takes}
use Rattle.engine_view.proofs.{Bounds.candidate_is, Leaving.less_assigned, Turning.IsFirst, engine.Engine.assign_first.Given.Over}
use Rattle.engine_view.proofs.engine.Engine.assign_first.Goals.{Start}
use Rattle.engine_view.proofs.Turning as turning
use Rattle.engine_view.proofs.engine.Engine.assign_first.Goals as goal

-- what stands of the step
module _ (g : Over) (c : Start g) where
  at : determined c.args.self.now.graph.lanes c.args.self.now.fifos.channels c.args.owner ≡ Some c.args.cycle
  at = let (d, limit, low, i, k, may) = c.requires.may in
      candidate_is d i (held_in c.args.self.now) k.sound c.args.owner ∙ may.determined.at

  takes : MayTake c.args.self.now.graph.lanes c.args.owner c.args.cycle
  takes = let (d, limit, low, i, k, may) = c.requires.may in
      determined_takes c.args.self.now.graph.lanes c.args.self.now.fifos.channels c.args.owner limit c.args.cycle c.requires.owner low
      k.sound.sound_lanes at may.determined.below

  among : are_among (step_of (held_in c.args.self.now) c.args.owner (first_of (held_in c.args.self.now) c.args.owner))
      (log_at c.args.self.now.log.logs c.args.owner).verified ≡ true
  among = let (d, limit, low, i, k, may) = c.requires.may in (and_parts _ _ may.verified).1

  first : IsFirst (held_in c.args.self.now) c.args.owner
      (step_of (held_in c.args.self.now) c.args.owner (first_of (held_in c.args.self.now) c.args.owner))
  first = record { there = takes.waiting; is = refl }

pub assign-requires : goal.assign-requires
assign-requires g c = takes g (goal.at.assign-requires g c).Start

pub returns-clause-done : goal.returns-clause-done
returns-clause-done g c = λ limit below d i k.
    let s = (goal.at.returns-clause-done g c).Start in
    rw c.assign.ensures.lanes (turning.turn_assigned (first g s) i k refl (at g s) below (sym (among g s)) c.requires.owner
    (rw (← c.assign.ensures.lanes) c.assign.ensures.sound))

pub returns-clause-room : goal.returns-clause-room
returns-clause-room g c = record {
  ends = refl;
  credits = refl;
  room = λ d i k r. rw c.assign.ensures.lanes (turning.room_assigned c.args.cycle c.requires.owner r c.assign.ensures.kept);
}

pub returns-clause-less : goal.returns-clause-less
returns-clause-less g c =
    let s = (goal.at.returns-clause-less g c).Start in
    less_assigned c.args.self.now c.assign.new.graph c.args.owner c.args.cycle c.assign.ensures.lanes c.requires.owner
    (takes g s).waiting (among g s)
