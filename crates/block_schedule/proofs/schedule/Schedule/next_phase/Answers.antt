use Rattle.std.proofs.Common.{◌≡◌, ◌∙◌, ap, arith, ◌+◌, ◌<◌, ◌≤◌, ℕ, List, get_or, length}
use Rattle.std.proofs.lemmas.List.{get_or-drop, get_or_default, length-drop}
use Rattle.block_schedule.specs.{Slot}
use Rattle.block_schedule.proofs.Next.{next_phase, no_phase}
use Rattle.block_schedule.proofs.schedule.Schedule.next_phase.Goals as goal

pub returns-then-age-whole-clause-some : goal.returns-then-age-whole-clause-some
returns-then-age-whole-clause-some c b is =
    let s = c.args.self.now in
    let i : ℕ = c.loop-slot.slot-index in
    let d : Slot = record { rank = 0; op = 0 } in
    let (place, (items, (at, (inside, none)))) = c.loop-slot.invariant in
    let within : place + i < length s.slots.items =
    omega (arith, c.loop-slot-test.true, c.deref.ensures.len, ap (λ (ts : List Slot). length ts) items, length-drop place s.slots.items) in
    let t : Slot = get_or _ i d in
    let read : t ≡ get_or s.slots.items (place + i) d =
    ap (λ (ts : List Slot). get_or ts i d) items ∙ get_or-drop place s.slots.items i d in
    next_phase b s c.args.whole c.args.live c.args.phase place (place + i) t is at none (omega arith) within
    (read ∙ get_or_default s.slots.items (place + i) d t within)
    (record { from = c.if-whole-age.true; to = c.if-age-whole.true })

pub returns-clause-none : goal.returns-clause-none
returns-clause-none c b is same =
    let s = c.args.self.now in
    let (place, (items, (at, (inside, none)))) = c.loop-slot.invariant in
    let all : length s.slots.items ≤ place + c.loop-slot.slot-index =
    omega (arith, c.loop-slot-test.false, ap (λ (ts : List Slot). length ts) items, length-drop place s.slots.items) in
    no_phase b s c.args.whole c.args.live c.args.phase place is at (λ k d from to. none k d from (omega arith))
