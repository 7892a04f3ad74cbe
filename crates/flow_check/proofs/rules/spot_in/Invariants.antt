use Rattle.std.proofs.Common.{◌≡◌, ◌+◌, drop, option_map}
use Rattle.flow_check.specs.{first_in, spot}
use Rattle.flow_check.proofs.rules.spot_in.Given as goal

abbrev pub invariant-loop-at : goal.invariant-loop-at
invariant-loop-at l = first_in (spot l.scale l.rule l.of) l.of.blocks
    ≡ option_map (λ p. (l.at + p.0, p.1)) (first_in (spot l.scale l.rule l.of) (drop l.at l.of.blocks))
