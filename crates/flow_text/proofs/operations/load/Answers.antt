use Rattle.std.proofs.Common.{◌-◌, arith, drop, length, map, take}
use Rattle.flow_text.specs.{trees_of}
use Rattle.flow_text.proofs.OperationLaws.{two_front, load_reads}
use Rattle.flow_text.proofs.operations.load.Goals as goal

pub returns : goal.returns
returns c =
    let tokens = c.args.tokens.now in
    let register = c.in_ok-target.target in
    let memory = c.in_ok-memory.memory in
    let trees = trees_of (map (λ t. t.now) (take (length tokens - 2) (drop 2 tokens))) in
    let told = load_reads c.args.tables.now register memory trees in
    let split = two_front (λ t. t.now) _ _ tokens register memory c.in_ok-target.ensures c.in_ok-memory.ensures
    c.in-len2-up.len_at_least in
    rw split (grind (arith, told, c.map.ensures.cases))
