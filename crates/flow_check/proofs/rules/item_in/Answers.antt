use Rattle.std.proofs.Common.{sym, ◌∙◌}
use Rattle.flow_check.specs.{spot_in, in_module}
use Rattle.flow_check.proofs.Firsts.{found_here}
use Rattle.flow_check.proofs.rules.item_in.Goals as goal

pub returns-in-Some : goal.returns-in-Some
returns-in-Some c =
    found_here (spot_in c.args.scale c.args.rule) in_module c.args.modules.now c.loop-at.at c.index-modules-at.result _ c.loop-at.invariant
    c.loop-at-test.true c.index-modules-at.is (sym c.in_ok-block.ensures ∙ c.in-Some.is)
