use Rattle.std.proofs.Common.{ℕ, subst, sym}
use Rattle.event_graph.proofs.Packing.{whole_kept}
use Rattle.event_graph.specs.{store_with, whole_mark, IsStepKept}
use Rattle.event_graph.proofs.steps.keep_owned.Goals as goal

pub returns-then-can_pack-clause-kept : goal.returns-then-can_pack-clause-kept
returns-then-can_pack-clause-kept c =
    rw (← c.can_pack.ensures.words, ← c.can_pack.ensures.shapes, ← c.as_slice.ensures) (c.keep_packed.ensures.kept c.args.others.now)

pub returns-then-can_pack-clause-room : goal.returns-then-can_pack-clause-room
returns-then-can_pack-clause-room c =
    c.keep_packed.ensures.room c.args.left (rw (← c.as_slice.ensures) at (c.can_pack.ensures.room c.if-can_pack.true))

pub returns-clause-kept : goal.returns-clause-kept
returns-clause-kept c =
    let old = store_with c.args.words.now c.args.shapes.now c.args.others.now in
    let new = store_with c.can_pack.new.words c.can_pack.new.shapes c.push_reserved.new.self in
    subst (λ (at : ℕ). IsStepKept old new c.args.step (record { gap = 0; shape = whole_mark; at = at })) (sym c.len-at.ensures)
    (rw (c.can_pack.ensures.words, c.can_pack.ensures.shapes) (whole_kept old c.push_reserved.new.self.items c.args.step
    c.push_reserved.ensures.items))
