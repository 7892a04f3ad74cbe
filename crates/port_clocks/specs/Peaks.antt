-- The most elements that a FIFO holds.
use Rattle.std.specs.{Prelude.ℕ, Prelude.◌+◌, Prelude.map, Prelude.max, Prelude.fold, List.range_with_len}
use Rattle.flow_design.specs.{Plan}
use Rattle.timelines.specs.{fill, last_clock}

-- the greatest number of elements that a FIFO holds in any clock up to the verdict's
unfoldable pub peak : Plan → ℕ → ℕ
peak p f = fold max 0 (map (fill p f) (range_with_len 0 (last_clock p + 1)))
