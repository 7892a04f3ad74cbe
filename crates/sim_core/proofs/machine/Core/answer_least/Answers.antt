use Rattle.std.proofs.Common.{refl}
use Rattle.sim_core.proofs.Timed.{relisted}
use Rattle.sim_core.proofs.Turning as turning
use Rattle.sim_core.proofs.machine.Core.answer_least.Goals as goal

pub returns-in-None-clause-done : goal.returns-in-None-clause-done
returns-in-None-clause-done c =
    let k = c.self.invariant.core in
    let quiet = rw (← c.self.view_is) at c.requires in
    let none = c.in-None.ensures.none.0 refl in (
      c.self.view_is,
      rw (← c.self.view_is) (turning.final_if k quiet _ c.list_candidates.ensures.count c.list_candidates.ensures.all none),
    )

pub answer_open-requires : goal.answer_open-requires
answer_open-requires c =
    let k = c.self.invariant.core in
    let quiet = rw (← c.self.view_is) at c.requires in
    let least = c.in-Some.ensures.some in
    turning.least_may k quiet _ c.list_candidates.ensures.count c.list_candidates.ensures.all least

pub returns-in-Some-clause-first : goal.returns-in-Some-clause-first
returns-in-Some-clause-first c =
    let k = c.self.invariant.core in
    let quiet = rw (← c.self.view_is) at c.requires in
    let least = c.in-Some.ensures.some in
    rw (← c.self.view_is) (turning.least_first k quiet _ c.list_candidates.ensures.count c.list_candidates.ensures.all least)

pub list_candidates-requires-clause-listed : goal.list_candidates-requires-clause-listed
list_candidates-requires-clause-listed c =
    turning.listed_found c.self.invariant.core c.self.inside.due c.self.inside.candidates c.self.invariant.listed_are

pub invariant_of-self : goal.invariant_of-self
invariant_of-self c =
    relisted c.self.invariant (rw (← c.self.view_is) at c.requires) c.list.new.self c.list_candidates.new.candidates
    c.list.ensures.asking_room c.list.ensures.running c.list.ensures.unlisted_room c.list_candidates.ensures.count
    c.list_candidates.ensures.all

pub invariant_of-self-in-Some : goal.invariant_of-self-in-Some
invariant_of-self-in-Some c =
    relisted c.self.invariant (rw (← c.self.view_is) at c.requires) c.list.new.self c.list_candidates.new.candidates
    c.list.ensures.asking_room c.list.ensures.running c.list.ensures.unlisted_room c.list_candidates.ensures.count
    c.list_candidates.ensures.all
