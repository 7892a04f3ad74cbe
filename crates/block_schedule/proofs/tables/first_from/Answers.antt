use Rattle.std.proofs.{Common.nat_lt, Common.get_or, Common.rules, Common.arith, lemmas.Bool.ltb-true, lemmas.Bool.ltb-false}
use Rattle.std.proofs.lemmas.List.Sorted.{IsPartitionPoint-from_clause, IsPartitionedBy-ltb}
use Rattle.block_schedule.specs.{Slot}
use Rattle.block_schedule.proofs.tables.first_from.Goals as goal

pub returns : goal.returns
returns c =
    let parted = IsPartitionedBy-ltb (λ (t : Slot). t.rank) _ c.args.rank c.requires in
    let point = IsPartitionPoint-from_clause (λ (t : Slot). nat_lt t.rank c.args.rank) _ _ c.partition_point.ensures.partitioned parted
    (λ a r q k. search rules) in
    record {
      bound = c.partition_point.ensures.bound;
      below = λ k d h. ltb-true (get_or c.args.slots.now k d).rank c.args.rank (point.0 k d (omega arith) h);
      rest = λ k d h l. ltb-false (get_or c.args.slots.now k d).rank c.args.rank (point.1 k d h l);
    }
