use Rattle.std.proofs.{Common.nat_lt, Common.get_or, Common.rules, Common.arith, lemmas.Bool.ltb-true, lemmas.Bool.ltb-false}
use Rattle.std.proofs.lemmas.List.Sorted.{IsPartitionPoint-from_clause, IsPartitionedBy-ltb}
use Rattle.sim_core.specs.{Port, rank_of}
use Rattle.sim_core.proofs.Counting.{rises}
use Rattle.sim_core.proofs.taken.first_from.Goals as goal

pub returns : goal.returns
returns c =
    let parted = IsPartitionedBy-ltb rank_of _ c.args.least (rises c.args.ports.now c.requires) in
    let point = IsPartitionPoint-from_clause (λ (port : Port). nat_lt (rank_of port) c.args.least) _ _
    c.partition_point.ensures.partitioned parted (λ a r q k. search rules) in
    record {
      bound = c.partition_point.ensures.bound;
      below = λ k d h. ltb-true (rank_of (get_or c.args.ports.now k d)) c.args.least (point.0 k d (omega arith) h);
      rest = λ k d h l. ltb-false (rank_of (get_or c.args.ports.now k d)) c.args.least (point.1 k d h l);
    }
