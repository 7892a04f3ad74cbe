use Rattle.std.proofs.Common.{◌-◌, arith, drop, length, map, take}
use Rattle.flow_text.specs.{trees_of}
use Rattle.flow_text.proofs.OperationLaws.{one_front, set_reads}
use Rattle.flow_text.proofs.operations.set.Goals as goal

pub returns : goal.returns
returns c =
    let tokens = c.args.tokens.now in
    let register = c.in_ok-register.register in
    let trees = trees_of (map (λ t. t.now) (take (length tokens - 1) (drop 1 tokens))) in
    let told = set_reads c.args.tables.now register trees in
    rw (one_front (λ t. t.now) _ tokens register c.in_ok-register.ensures c.in-len1-up.len_at_least)
    (grind (arith, told, c.map.ensures.cases))
