-- All choices of a depth for each FIFO, and the first one that takes the fewest bits.
use Rattle.std.specs.Prelude.{ℕ, nat_lt, Bool, not, ◌&&◌, if◌then◌else◌, Option, List, [], ◌∷◌, find, flat_map, map}
use Rattle.std.specs.List.{list_any, range_with_len}
use Rattle.flow_design.specs.{Channel, is_fifo}
use Rattle.depth_cuts.specs.{bits_of}

-- the depths that a channel may have, in order: from 1 to the greatest for a FIFO, and 0 alone for a channel of another kind
abbrev pub allowed : ℕ → Channel → List ℕ
allowed most channel = if is_fifo channel.kind then range_with_len 1 most else 0 ∷ []

-- all choices of a depth for each channel, in lexicographic order
unfoldable pub choices : ℕ → List Channel → List (List ℕ)
choices most [] = [] ∷ []
choices most (channel ∷ channels) = flat_map (λ depth. map (λ others. depth ∷ others) (choices most channels)) (allowed most channel)

-- one entry per channel: how many bits an element of it has
abbrev pub widths_of : List Channel → List ℕ
widths_of channels = map (λ c. c.width) channels

-- the bits of FIFO memory: the sum of depth times width over the channels, of which those of another kind have depth 0
abbrev pub memory_bits : List Channel → List ℕ → ℕ
memory_bits channels depths = bits_of (widths_of channels) depths

-- the first list that passes the test and takes no more bits than any other that passes
unfoldable pub least_of : (List ℕ → Bool) → (List ℕ → ℕ) → List (List ℕ) → Option (List ℕ)
least_of passes bits all = find (λ ds. passes ds && not (list_any (λ es. passes es && nat_lt (bits es) (bits ds)) all)) all
