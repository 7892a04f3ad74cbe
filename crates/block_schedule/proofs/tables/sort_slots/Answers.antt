use Rattle.std.proofs.{Common.rules, lemmas.List.Sorted.IsNonDecreasingBy-from_sort_by_key, lemmas.List.Sorted.answers_always}
use Rattle.block_schedule.specs.{Slot}
use Rattle.block_schedule.proofs.tables.sort_slots.Goals as goal

pub returns-clause-sorted : goal.returns-clause-sorted
returns-clause-sorted c = IsNonDecreasingBy-from_sort_by_key (λ (t : Slot). t.rank) _ c.in_ok-sort_by_key.ensures.sorted
    (λ a r q k. search rules)

pub returns-clause-stable : goal.returns-clause-stable
returns-clause-stable c = c.in_ok-sort_by_key.ensures.stable (λ (t : Slot). t.rank) (answers_always _ _ _ (λ f a r q k. search rules))
