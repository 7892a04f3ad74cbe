use Rattle.std.proofs.Common.{◌≡◌, refl, subst, map, List}
use Rattle.std.specs.{Prelude.IsPermutation, List.enumerate_from}
use Rattle.block_schedule.specs.{interval, Slot, slot_of, ArePhases}
use Rattle.block_schedule.proofs.Slots.{operations_are, same_count}
use Rattle.block_schedule.proofs.schedule.Schedule.new.Goals as goal

pub phases_of-requires-clause-few : goal.phases_of-requires-clause-few
phases_of-requires-clause-few c =
    let b = c.args.block.now in
    let made : c.in_ok-slots.slots.items ≡ map (slot_of (interval b)) (enumerate_from 0 b.ops) =
    rw (c.as_slice.ensures, c.interval-interval.ensures) at c.in_ok-slots.ensures in
    let count = same_count b c.in_ok-slots.slots.items c.sort_slots.new.slots.items made c.in_ok-sort_slots.ensures.moved in
    rw (c.deref.ensures.value, count) c.requires.count

pub returns : goal.returns
returns c =
    let b = c.args.block.now in
    let made : c.in_ok-slots.slots.items ≡ map (slot_of (interval b)) (enumerate_from 0 b.ops) =
    rw (c.as_slice.ensures, c.interval-interval.ensures) at c.in_ok-slots.ensures in
    record {
      same_interval = c.interval-interval.ensures;
      same_len = refl;
      limits = c.requires;
      slots = subst (λ (ts : List Slot). IsPermutation ts c.sort_slots.new.slots.items) made c.in_ok-sort_slots.ensures.moved;
      in_order = c.in_ok-sort_slots.ensures.sorted;
      operations = operations_are b c.in_ok-slots.slots.items c.sort_slots.new.slots.items c.requires made
          c.in_ok-sort_slots.ensures.stable;
      phases = subst (λ (ts : List Slot). ArePhases ts c.in_ok-phases.phases.items) c.deref.ensures.value c.in_ok-phases.ensures;
    }
