use Rattle.std.proofs.Common.{◌-◌, arith, drop, length, map, take}
use Rattle.flow_text.specs.{trees_of}
use Rattle.flow_text.proofs.OperationLaws.{one_front, write_reads}
use Rattle.flow_text.proofs.operations.write.Goals as goal

pub returns : goal.returns
returns c =
    let tokens = c.args.tokens.now in
    let channel = c.in_ok-channel.channel in
    let trees = trees_of (map (λ t. t.now) (take (length tokens - 1) (drop 1 tokens))) in
    let told = write_reads c.args.tables.now channel trees in
    rw (one_front (λ t. t.now) _ tokens channel c.in_ok-channel.ensures c.in-len1-up.len_at_least)
    (grind (arith, told, c.map.ensures.cases))
