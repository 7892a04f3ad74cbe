use Rattle.std.proofs.Common.{take}
use Rattle.std.specs.Prelude.{All}
use Rattle.cycle_changes.specs.{held_in, Put, IsLookedAround}
use Rattle.cycle_changes.proofs.changed.are_found_right.Given as goal

-- all that the puts so far can reach is right
abbrev pub invariant-loop-put : goal.invariant-loop-put
invariant-loop-put l = All (λ (p : Put). IsLookedAround (held_in l.engine) l.limit p.place) (take l.put-index l.puts)
