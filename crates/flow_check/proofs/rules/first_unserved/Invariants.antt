use Rattle.std.proofs.Common.{◌≡◌, ◌+◌, List, drop, option_map}
use Rattle.std.specs.List.{enumerate_from}
use Rattle.flow_word.specs.declared.access.Side.TheVariants.{Pop, Push}
use Rattle.flow_design.specs.declared.design.Module.{Module}
use Rattle.flow_check.specs.{place_where, lacks_users, AreUserCounts}
use Rattle.flow_check.proofs.rules.first_unserved.Given as goal

abbrev pub invariant-loop-at : goal.invariant-loop-at
invariant-loop-at l = (modules : List Module) → AreUserCounts modules Pop l.readers → AreUserCounts modules Push l.writers
    → place_where (lacks_users modules) (enumerate_from 0 l.channels)
    ≡ option_map (λ k. l.at + k) (place_where (lacks_users modules) (enumerate_from l.at (drop l.at l.channels)))
