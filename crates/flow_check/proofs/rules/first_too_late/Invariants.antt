use Rattle.std.proofs.Common.{◌≡◌, ◌+◌, drop, option_map}
use Rattle.flow_check.specs.{place_where, is_too_late}
use Rattle.flow_check.proofs.rules.first_too_late.Given as goal

abbrev pub invariant-loop-at : goal.invariant-loop-at
invariant-loop-at l = place_where (is_too_late l.len) l.ops ≡ option_map (λ k. l.at + k) (place_where (is_too_late l.len) (drop l.at l.ops))
