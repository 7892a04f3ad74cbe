use Rattle.std.proofs.Common.{refl, sym, ap, inl, arith}
use Rattle.engine_view.specs.{Step, no_lane, in_lane, no_step, held_in, first_of}
use Rattle.engine_view.proofs.{Leaving.less_answered, Unsure.verified_now, Turning.IsFirst, Turning.is_first}
use Rattle.engine_view.proofs.{engine.Engine.time_asking.Given.Over, engine.Engine.time_asking.Goals.After-look-first}
use Rattle.engine_view.proofs.Turning as turning
use Rattle.engine_view.proofs.engine.Engine.time_asking.Goals as goal

first : (g : Over) (c : After-look-first g)
    → IsFirst (held_in c.args.self.now) c.args.owner (in_lane c.look-first.result)
first g c = is_first (held_in c.args.self.now) c.args.owner c.frontier.ensures.count c.look-first.ensures.step

pub verified-requires : goal.verified-requires
verified-requires g c =
    let (d, i, k, r) = c.requires.core in
    let logs = k.sound.logs in
    let lanes = k.sound.lanes in
    let (limit, due) = c.requires.due in
    let inside = due.takes.may.inside in
    omega arith

pub are_first-requires : goal.are_first-requires
are_first-requires g c =
    let (limit, due) = c.requires.due in
    due.takes.count (in_lane c.look-first.result) (rw (← c.frontier.ensures.count) c.look-first.ensures.step)

pub assign_first-requires-clause-may : goal.assign_first-requires-clause-may
assign_first-requires-clause-may g c =
    let (d, i, k, r) = c.requires.core in
    let at = first g (goal.at.assign_first-requires-clause-may g c).After-look-first in
    let (limit, due) = c.requires.due in
    (d, limit, due.limited, i, k, turning.may_assign at i k c.verified.ensures.count due.at due.below c.if-are_first.ensures)

pub returns-then-are_first : goal.returns-then-are_first
returns-then-are_first g c = record {
  done = λ limit due. c.assign_first.ensures.done limit due.below;
  room = c.assign_first.ensures.room;
  lanes = c.assign_first.ensures.lanes;
  kinds = rw c.assign_first.ensures.rest refl;
  less = λ e. c.assign_first.ensures.less;
  ticks = c.assign_first.ensures.ticks;
}

pub all_decided-requires-clause-inside : goal.all_decided-requires-clause-inside
all_decided-requires-clause-inside g c =
    let (d, i, k, r) = c.requires.core in
    let at = first g (goal.at.all_decided-requires-clause-inside g c).After-look-first in
    rw (ap (λ (t : Step). t.accesses) (sym at.is))
    (k.sound.inside c.args.owner no_lane (c.requires.due.1).takes.may.inside (first_of (held_in c.args.self.now) c.args.owner) no_step
    at.there)

pub all_decided-requires-clause-places : goal.all_decided-requires-clause-places
all_decided-requires-clause-places g c = let (d, i, k, r) = c.requires.core in k.sound.places

pub returns-then-not-all_decided-clause-done : goal.returns-then-not-all_decided-clause-done
returns-then-not-all_decided-clause-done g c = λ limit due. (
  refl,
  λ d i k.
      turning.idle_undecided (first g (goal.at.returns-then-not-all_decided-clause-done g c).After-look-first) i k
      c.verified.ensures.count limit c.if-are_first.ensures refl c.if-not-all_decided.ensures,
)

pub answer_first-requires-clause-unsure : goal.answer_first-requires-clause-unsure
answer_first-requires-clause-unsure g c =
    turning.unsure_here (first g (goal.at.answer_first-requires-clause-unsure g c).After-look-first) c.verified.ensures.count
    c.if-are_first.ensures (c.requires.due.1).takes.may.inside

pub returns-in-Same-clause-done : goal.returns-in-Same-clause-done
returns-in-Same-clause-done g c = λ limit due d i k.
    let at = first g (goal.at.returns-in-Same-clause-done g c).After-look-first in
    let may = turning.may_answer at i k c.verified.ensures.count due.at due.below c.if-are_first.ensures refl
    c.if-not-all_decided.ensures in
    let a = c.in-Same.ensures.answered d i k in
    (may, record { acts = (c.args.cycle, may, inl (a.same, a.now.core)); kept = a.now.kept })

pub returns-in-Same-clause-less : goal.returns-in-Same-clause-less
returns-in-Same-clause-less g c = λ e.
    let (d, i, k, r) = c.requires.core in
    let unsure = turning.unsure_here (first g (goal.at.returns-in-Same-clause-less g c).After-look-first) c.verified.ensures.count
    c.if-are_first.ensures (c.requires.due.1).takes.may.inside in
    less_answered c.args.self.now c.answer_first.new.self c.args.owner c.answer_first.ensures.graph unsure c.answer_first.ensures.others
    (rw c.answer_first.ensures.graph at (verified_now d (held_in c.args.self.now) c.args.owner c.args.cycle
    (held_in c.answer_first.new.self) (c.in-Same.ensures.answered d i k)))

pub returns-in-Differs-clause-done : goal.returns-in-Differs-clause-done
returns-in-Differs-clause-done g c = λ limit due. (
  c.in-Differs.ensures.answered.0,
  λ d i k.
      let at = first g (goal.at.returns-in-Differs-clause-done g c).After-look-first in
      record {
        cycle = c.args.cycle;
        may = turning.may_answer at i k c.verified.ensures.count due.at due.below c.if-are_first.ensures refl
            c.if-not-all_decided.ensures;
        found = c.in-Differs.ensures.answered.1 d i k;
      },
)
