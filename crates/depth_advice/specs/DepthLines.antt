-- The lines that tell depths.
use Rattle.std.specs.Prelude.{ℕ, List, [], ◌∷◌, codes, decimal, filter, map}
use Rattle.std.specs.List.{zip}
use Rattle.flow_design.specs.{Channel, is_fifo, Token}

-- the tokens of `depth NAME D`, for a channel and a depth; and then, the lines of all FIFOs in order of declaration
abbrev pub depth_tokens : Channel × ℕ → List Token
depth_tokens entry = codes "depth" ∷ entry.0.name ∷ decimal entry.1 ∷ []

abbrev pub depth_lines : List Channel → List ℕ → List (List Token)
depth_lines channels depths = map depth_tokens (filter (λ entry. is_fifo entry.0.kind) (zip channels depths))
