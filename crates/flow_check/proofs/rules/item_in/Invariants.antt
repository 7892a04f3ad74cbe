use Rattle.std.proofs.Common.{◌≡◌, ◌+◌, drop, option_map}
use Rattle.flow_check.specs.{first_in, spot_in}
use Rattle.flow_check.proofs.rules.item_in.Given as goal

abbrev pub invariant-loop-at : goal.invariant-loop-at
invariant-loop-at l = first_in (spot_in l.scale l.rule) l.modules
    ≡ option_map (λ p. (l.at + p.0, p.1)) (first_in (spot_in l.scale l.rule) (drop l.at l.modules))
