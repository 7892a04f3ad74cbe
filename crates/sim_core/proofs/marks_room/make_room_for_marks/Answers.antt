use Rattle.std.proofs.Common.{◌≡◌, ◌∙◌, sym, inr, length, rules}
use Rattle.module_interp.proofs.Parts.{head_each}
use Rattle.sim_core.specs.{marks_of}
use Rattle.engine_report.proofs.Waiting.{both_ok}
use Rattle.sim_core.proofs.marks_room.make_room_for_marks.Goals.{After-len-count}
use Rattle.sim_core.proofs.Ports as ports
use Rattle.sim_core.proofs.Roomed as roomed
use Rattle.sim_core.proofs.marks_room.make_room_for_marks.Goals as goal

pub count_taken-requires-clause-ports : goal.count_taken-requires-clause-ports
count_taken-requires-clause-ports c =
    let (p, (runs, (k, m))) = c.requires.core in
    ports.all_in_order p c.args.member.now.number c.args.member.now.ports.now m.ports_are

pub make_room_at-requires-clause-ports : goal.make_room_at-requires-clause-ports
make_room_at-requires-clause-ports c =
    let (p, (runs, (k, m))) = c.requires.core in roomed.ports_inside k c.args.member.now.number m.inside _ m.ports_are

pub make_room_for-requires-clause-ports : goal.make_room_for-requires-clause-ports
make_room_for-requires-clause-ports c =
    let (p, (runs, (k, m))) = c.requires.core in roomed.ports_inside k c.args.member.now.number m.inside _ m.ports_are

pub returns-then-count-credit-clause-core : goal.returns-then-count-credit-clause-core
returns-then-count-credit-clause-core c p runs (k, m) =
    roomed.core k c.args.member.now.number m.inside _ m.ports_are c.make_room_at.new.self c.make_room_at.ensures.same
    (λ d all. c.make_room_at.ensures.room d)

pub returns-clause-core : goal.returns-clause-core
returns-clause-core c p runs (k, m) =
    roomed.core k c.args.member.now.number m.inside _ m.ports_are c.make_room_for.new.self c.make_room_for.ensures.same
    c.make_room_for.ensures.room

count_is : (c : After-len-count) → c.len-count.result ≡ length (marks_of c.args.marks.now)
count_is c =
    c.len-count.ensures.value
    ∙ sym (head_each c.args.marks.now.heads.items c.args.marks.now.accesses.items c.args.marks.now.others.items c.requires.parts)

pub returns-then-count-credit-clause-places : goal.returns-then-count-credit-clause-places
returns-then-count-credit-clause-places c =
    let same = count_is (goal.at.returns-then-count-credit-clause-places c).After-len-count in
    both_ok c.make_room_at.result (λ steps room p runs (k, m). inr (ports.place_for_each p c.args.member.now.number m.ports_are
    c.make_room_at.new.self (rw (← c.as_slice.ensures) at c.in_ok-taken.ensures) (rw same at steps) room))
    c.make_room_at.ensures.steps c.make_room_at.ensures.places

pub returns-clause-places : goal.returns-clause-places
returns-clause-places c =
    let same = count_is (goal.at.returns-clause-places c).After-len-count in
    search rules
