use Rattle.std.proofs.Common.{◌≡◌, ℕ, ◌+◌, ap, length, map, arith, length-append}
use Rattle.std.proofs.lemmas.List.{length-map}
use Rattle.event_graph.specs.{Shape, access_slot}
use Rattle.event_graph.proofs.Shaping.{numbered_with, room_left}
use Rattle.event_graph.proofs.shapes.ShapeList.add.Goals as goal

pub returns-clause-number : goal.returns-clause-number
returns-clause-number c =
    let accesses = c.args.accesses.now in
    let counted = c.args.counted in
    let shape : Shape = record { at = c.len.result; count = length accesses; counted = counted } in
    let old = c.self.inside in
    rw (← c.self.view_is, c.len-number.ensures) (numbered_with old.slots.items c.push_slots.new.slots.items old.shapes.items
    c.push_reserved.new.self.items shape accesses counted c.self.invariant c.push_slots.ensures.items c.push_reserved.ensures.items
    (ap (λ (at : ℕ). record { at = at; count = length accesses; counted = counted }) c.len.ensures))

pub returns-clause-room : goal.returns-clause-room
returns-clause-room c =
    let accesses = c.args.accesses.now in
    let old = c.self.inside in
    let more = ap length c.push_slots.ensures.items in
    let slots : length c.push_slots.new.slots.items ≡ length old.slots.items + length accesses =
    omega (arith, more, length-append old.slots.items (map access_slot accesses), length-map accesses access_slot) in
    rw (← c.self.view_is) (room_left old.shapes c.push_reserved.new.self old.slots c.push_slots.new.slots (length accesses)
    c.push_reserved.ensures.room c.push_slots.ensures.room slots)
