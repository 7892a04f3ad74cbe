use Rattle.std.proofs.Common.{◌≡◌, ◌+◌, drop, option_map}
use Rattle.flow_check.specs.{place_where, is_on_wrong_side}
use Rattle.flow_check.proofs.rules.first_on_wrong_side.Given as goal

abbrev pub invariant-loop-at : goal.invariant-loop-at
invariant-loop-at l = place_where (is_on_wrong_side l.of) l.ops
    ≡ option_map (λ k. l.at + k) (place_where (is_on_wrong_side l.of) (drop l.at l.ops))
