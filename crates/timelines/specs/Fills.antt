-- How many elements each FIFO holds in each clock.
use Rattle.std.specs.Prelude.{ℕ, ◌≡◌, ◌<◌, ◌≤◌, List, length, map, filter, slice_index}
use Rattle.std.specs.List.{range_with_len}
use Rattle.flow_word.specs.{Side}
use Rattle.flow_design.specs.{Plan, is_fifo, kind_at, clock_of}
use Rattle.lockstep_defs.specs.{moved, contents_of, state, history, verdict}

-- the numbers of the channels that are FIFOs, in order of declaration
abbrev pub fifos : Plan → List ℕ
fifos p = filter (λ f. is_fifo (kind_at p f)) (range_with_len 0 (length p.design.channels))

-- the fill of channel f: how many elements it holds in a clock, those in flight included
unfoldable pub fill : Plan → ℕ → ℕ → ℕ
fill p f clock = length (contents_of (state p clock).contents f)

-- the fill of each FIFO in a clock, in order of declaration
abbrev pub fills : Plan → ℕ → List ℕ
fills p clock = map (λ f. fill p f clock) (fifos p)

-- the clock of the verdict
abbrev pub last_clock : Plan → ℕ
last_clock p = clock_of (verdict p)

-- the i-th FIFO in order of declaration holds this many elements in this clock, which is at most the verdict's
pub record HasFill (p : Plan) (i clock elements : ℕ) : Type 0 where
  pub inside : i < length (fifos p)
  pub within : clock ≤ last_clock p
  pub fill : elements ≡ slice_index (fills p clock) i

-- how many elements were popped off channel f, or pushed on it, before a clock
abbrev pub moved_before : Plan → Side → ℕ → ℕ → ℕ
moved_before p side f clock = length (moved side f (history p clock))
