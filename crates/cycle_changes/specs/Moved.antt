-- How many steps have got another cycle.
use Rattle.std.specs.Prelude.{ℕ, suc, ◌+◌, List, [], ◌∷◌, length, nat_eq, if◌then◌else◌}
use Rattle.event_graph.specs.{Lane}
use Rattle.retime.specs.{cycles_in}

-- for how many steps two lanes have different cycles; a step with a cycle in only one of them counts too
abbrev pub others_in : List ℕ → List ℕ → ℕ
others_in [] new = length new
others_in (c ∷ old) [] = suc (length old)
others_in (c ∷ old) (e ∷ new) = (if nat_eq c e then 0 else 1) + others_in old new

-- for how many steps two lists of lanes have different cycles
abbrev pub moved_in : List Lane → List Lane → ℕ
moved_in [] new = cycles_in new
moved_in (l ∷ old) [] = cycles_in (l ∷ old)
moved_in (l ∷ old) (n ∷ new) = others_in l.cycles n.cycles + moved_in old new
