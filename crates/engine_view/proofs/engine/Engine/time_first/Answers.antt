use Rattle.std.proofs.Common.{refl, arith}
use Rattle.engine_view.specs.{held_in, IsDue}
use Rattle.engine_view.proofs.{engine.Engine.time_first.Given.Over, engine.Engine.time_first.Goals.In-At}
use Rattle.engine_view.proofs.Turning as turning
use Rattle.engine_view.proofs.engine.Engine.time_first.Goals as goal

pub candidate_and_queries-found-requires-clause-accesses : goal.candidate_and_queries-found-requires-clause-accesses
candidate_and_queries-found-requires-clause-accesses g c = let (d, i, k, r) = c.requires.core in k.sound.inside

pub candidate_and_queries-found-requires-clause-places : goal.candidate_and_queries-found-requires-clause-places
candidate_and_queries-found-requires-clause-places g c = let (d, i, k, r) = c.requires.core in k.sound.places

pub returns-in_default : goal.returns-in_default
returns-in_default g c = record {
  done = (
    refl,
    λ d i k.
        turning.idle_where d (held_in c.args.self.now) c.args.limit c.args.owner
        (λ k a b. c.in_default.not-At k ((c.candidate_and_queries-found.ensures.at k).1 (a, b))) i k,
  );
  room = record { ends = refl; credits = refl; room = λ d i k r. r };
  lanes = refl;
  kinds = refl;
  less = λ e. cc;
  ticks = omega arith;
}

-- what is found of the step
module _ (g : Over) (c : In-At g) where
  due : IsDue c.args.self.now c.args.limit c.args.owner c.in-At.cycle c.candidate_and_queries-found.result.1
  due =
      let (at, below) = (c.candidate_and_queries-found.ensures.at c.in-At.cycle).0 c.in-At.is in
      record {
        at = at;
        below = below;
        limited = c.requires.limit;
        takes = c.candidate_and_queries-found.ensures.may_take c.in-At.cycle c.in-At.is;
      }

pub assign_first-requires-clause-may : goal.assign_first-requires-clause-may
assign_first-requires-clause-may g c =
    let found = due g (goal.at.assign_first-requires-clause-may g c).In-At in
    let (d, i, k, r) = c.requires.core in (
      d,
      c.args.limit,
      c.requires.limit,
      i,
      k,
      turning.may_unasked (held_in c.args.self.now) c.args.owner found.takes
          c.if-queries-eq0.true i k found.at found.below,
    )

pub returns-then-queries-eq0-clause-done : goal.returns-then-queries-eq0-clause-done
returns-then-queries-eq0-clause-done g c =
    c.assign_first.ensures.done c.args.limit (due g (goal.at.returns-then-queries-eq0-clause-done g c).In-At).below

pub time_asking-requires-clause-due : goal.time_asking-requires-clause-due
time_asking-requires-clause-due g c = (c.args.limit, due g (goal.at.time_asking-requires-clause-due g c).In-At)

pub returns-clause-done : goal.returns-clause-done
returns-clause-done g c = c.time_asking.ensures.done c.args.limit (due g (goal.at.returns-clause-done g c).In-At)
