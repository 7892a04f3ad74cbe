use Rattle.std.proofs.Common.{◌≤◌, ap, arith, length, List}
use Rattle.flow_check.specs.{Port}
use Rattle.indexmap.specs.IndexSet.{keys}
use Rattle.flow_check.proofs.Tally.{all_counted}
use Rattle.flow_check.proofs.users.count_module.Goals as goal

pub returns : goal.returns
returns c =
    let ports = keys c.args.ports.now in
    let long = ap (λ (ps : List Port). length ps) c.as_slice-port-items.ensures.keys in
    let end : length ports ≤ c.loop-port.port-index = let f = c.loop-port-test.false in omega (arith, long) in
    all_counted c.args.side ports c.args.users.now c.loop-port.users c.loop-port.port-index end c.as_slice-port-items.ensures.unique
    c.loop-port.invariant
