use Rattle.std.proofs.Common.{◌≡◌, length, arith}
use Rattle.event_graph.specs.{places_for, whole, IsFewStep}
use Rattle.event_graph.proofs.steps.keep.Goals as goal

pub returns-in-Few-clause-kept : goal.returns-in-Few-clause-kept
returns-in-Few-clause-kept c = rw c.in-Few.is (c.keep_packed.ensures.kept c.args.others.now)

pub returns-in-Few-clause-room : goal.returns-in-Few-clause-room
returns-in-Few-clause-room c =
    let few : IsFewStep (whole c.in-Few.view) = rw c.in-Few.is at c.requires.few in
    let place : places_for (length c.in-Few.view.accesses.now) ≡ 1 = omega (arith, few.few) in
    c.keep_packed.ensures.room c.args.left (rw place c.requires.room)
