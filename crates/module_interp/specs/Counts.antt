-- Counts at channels.
use Rattle.std.specs.Prelude.{ℕ, ◌≡◌, ◌<◌, length, slice_index}
use Rattle.module_interp.specs.{OwnChannels.place_in, declared.counts.Counts.Counts}

-- the count of a channel; 0 where the channel is not counted
abbrev pub count_at : Counts → ℕ → ℕ
count_at t f = slice_index t.counts (place_in t.channels f)

-- the channel is one of those that are counted
abbrev pub HasCount : Counts → ℕ → Type 0
HasCount t f = place_in t.channels f < length t.channels

-- each channel has a count
abbrev pub AreCounts : Counts → Type 0
AreCounts t = length t.counts ≡ length t.channels
