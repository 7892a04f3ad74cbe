-- The modules at the ends of channels.
use Rattle.std.specs.{Prelude.ℕ, Prelude.List, Prelude.length, Prelude.map, List.range_with_len}
use Rattle.flow_word.specs.{Side}
use Rattle.flow_design.specs.{Plan}
use Rattle.lockstep_defs.specs.{owner}

-- one entry per channel: the module at this side of it
abbrev pub owners_at : Plan → Side → List ℕ
owners_at p side = map (λ f. owner p (record { side = side; channel = f })) (range_with_len 0 (length p.design.channels))
