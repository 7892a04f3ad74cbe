use Rattle.std.proofs.Common.{nat_lt, rules, sym, ap, ◌∙◌, ℕ, List, length, length-take-le}
use Rattle.std.proofs.lemmas.List.Sorted.{IsPartitionPoint-from_clause, IsPartitionedBy-ltb}
use Rattle.event_graph.proofs.Growth.{before_point, never_falls}
use Rattle.event_graph.proofs.lane.count_below.Goals as goal

pub returns-clause-front : goal.returns-clause-front
returns-clause-front c =
    let parted = IsPartitionedBy-ltb (λ y. y) _ c.args.cycle (never_falls _ c.requires) in
    let point = IsPartitionPoint-from_clause (λ y. nat_lt y c.args.cycle) _ _ c.partition_point.ensures.partitioned parted
    (λ a r q k. search rules) in
    before_point (λ y. nat_lt y c.args.cycle) _ _ c.partition_point.ensures.bound point

pub returns-clause-count : goal.returns-clause-count
returns-clause-count c =
    let few = c.partition_point.ensures.bound in
    sym (length-take-le c.partition_point.result c.args.cycles.now few) ∙ ap (λ (xs : List ℕ). length xs) (returns-clause-front c)
