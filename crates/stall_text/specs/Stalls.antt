-- Where a plan's time is lost: the elements that pass each port, and how full each FIFO is.
use Rattle.std.specs.Prelude.{ℕ, ◌==◌, Bool, ◌&&◌, is_some, List, map, filter, count_by}
use Rattle.std.specs.List.{range_with_len}
use Rattle.flow_word.specs.{Port, side_of}
use Rattle.flow_design.specs.{Plan, same_port}
use Rattle.lockstep_defs.specs.{contents_of, is_empty, is_full, state}
use Rattle.timelines.specs.{last_clock}
use Rattle.sim_core.specs.{log_of, LoggedAccess}

-- ---- ports

-- the access moved an element at this port
abbrev pub moved_at : Port → LoggedAccess → Bool
moved_at port a = is_some a.value && same_port port (record { side = side_of a.event.kind; channel = a.event.channel })

-- the clocks of these accesses
abbrev pub access_clocks : List LoggedAccess → List ℕ
access_clocks accesses = map (λ a. a.event.cycle) accesses

-- the clocks in which module i pops elements at a port, or pushes them there, in order
unfoldable pub port_clocks : Plan → ℕ → Port → List ℕ
port_clocks p i port = access_clocks (filter (λ a. a.event.«module» == i && moved_at port a) (log_of p))

-- ---- FIFOs

-- in how many clocks before the verdict's channel f holds no element that can be popped
unfoldable pub empty_clocks : Plan → ℕ → ℕ
empty_clocks p f = count_by (λ c. is_empty c (contents_of (state p c).contents f)) (range_with_len 0 (last_clock p))

-- in how many clocks before the verdict's channel f is full
unfoldable pub full_clocks : Plan → ℕ → ℕ
full_clocks p f = count_by (λ c. is_full p f (contents_of (state p c).contents f)) (range_with_len 0 (last_clock p))
