-- The event that enables an access.
use Rattle.std.specs.Prelude.{ℕ, ◌-◌, length, nat_le, if◌then◌else◌, Option, None, Some}
use Rattle.flow_word.specs.{Place, Side, declared.access.Side.TheVariants.Pop, declared.access.Side.TheVariants.Push}
use Rattle.fifo_table.specs.{declared.enabler.Enabler.Enabler, declared.channel.TableChannel.TableChannel}
use Rattle.fifo_table.specs.declared.enabler.Enabler.TheVariants.{Free, Event, Missing, Never}
use Rattle.fifo_table.specs.declared.channel.TableChannel.TheVariants.{Source, Sink, Fifo}
use Rattle.fifo_table.specs.Channels.{Channel, nth, places_of}

-- the event at this place, or that it is missing
abbrev pub event_at : Option Place → Enabler
event_at None = Missing
event_at (Some place) = Event place

-- the enabler of an access: in a FIFO the n-th pop waits for the n-th push, and a push for the pop that frees its place, as many
-- pops earlier as the depth. A source has its inputs from the start, and no more; a sink always has places
abbrev pub enabler_by : TableChannel → Side → Channel → ℕ → Enabler
enabler_by (Source inputs) Pop channel n = if nat_le n (length inputs) then Free else Never
enabler_by (Source inputs) Push channel n = Missing
enabler_by Sink Pop channel n = Missing
enabler_by Sink Push channel n = Free
enabler_by (Fifo depth delay) Pop channel n = event_at (nth (places_of Push channel) n)
enabler_by (Fifo depth delay) Push channel n = if nat_le n depth then Free else event_at (nth (places_of Pop channel) (n - depth))

-- the enabler of a channel's n-th pop, or of its n-th push
abbrev pub enabler_of : Channel → Side → ℕ → Enabler
enabler_of channel side n = enabler_by channel.kind side channel n
