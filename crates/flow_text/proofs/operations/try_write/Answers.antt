use Rattle.std.proofs.Common.{◌-◌, arith, drop, length, map, take}
use Rattle.flow_text.specs.{trees_of}
use Rattle.flow_text.proofs.OperationLaws.{two_front, try_write_reads}
use Rattle.flow_text.proofs.operations.try_write.Goals as goal

pub returns : goal.returns
returns c =
    let tokens = c.args.tokens.now in
    let channel = c.in_ok-channel.channel in
    let outcome = c.in_ok-outcome.outcome in
    let trees = trees_of (map (λ t. t.now) (take (length tokens - 2) (drop 2 tokens))) in
    let told = try_write_reads c.args.tables.now channel outcome trees in
    let split = two_front (λ t. t.now) _ _ tokens channel outcome c.in_ok-channel.ensures c.in_ok-outcome.ensures
    c.in-len2-up.len_at_least in
    rw split (grind (arith, told, c.map.ensures.cases))
