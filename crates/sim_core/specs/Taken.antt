-- What marks take at ports, and the order of ports.
use Rattle.std.specs.Prelude.{◌≡◌, ℕ, ◌+◌, ◌*◌, ◌<◌, List, length, map, slice_get, slice_index, sum_by, Some}
use Rattle.flow_word.specs.{Port, Side, declared.access.Side.TheVariants.Pop, declared.access.Side.TheVariants.Push}
use Rattle.flow_design.specs.{Advance}
use Rattle.flow_design.specs.declared.state.Advance.TheVariants.{Step, Ended, Spent}
use Rattle.event_timing.specs.{takers}
use Rattle.engine_view.specs.{seen}

-- how often a mark pops, or pushes, at this side of channel c
abbrev pub taken_at : Side → ℕ → Advance → ℕ
taken_at side c (Step t) = takers side c (map seen t.accesses)
taken_at side c (Ended n) = 0
taken_at side c (Spent n) = 0

-- how often these marks pop, or push, at this side of channel c
abbrev pub taken_by_marks : Side → ℕ → List Advance → ℕ
taken_by_marks side c marks = sum_by (taken_at side c) marks

abbrev pub side_rank : Side → ℕ
side_rank Pop = 0
side_rank Push = 1

-- the place of a port in the order of a module's ports: by channel, and of one channel the pops first
abbrev pub rank_of : Port → ℕ
rank_of port = 2 * port.channel + side_rank port.side

-- each port comes before those after it in the list
abbrev pub ArePortsInOrder : List Port → Type 0
ArePortsInOrder ports = (i j : ℕ) (a b : Port) → i < j → slice_get ports i ≡ Some a → slice_get ports j ≡ Some b → rank_of a < rank_of b

-- a number for each port, and each has grown by as much as is told of its port
pub record AreAdded (ports : List Port) (more : Port → ℕ) (old new : List ℕ) : Type 0 where
  pub count : length new ≡ length old
  pub each : (i : ℕ) (port : Port) → slice_get ports i ≡ Some port → slice_index new i ≡ slice_index old i + more port

-- a number for each port: how often these marks take there
pub record AreTakenByMarks (ports : List Port) (marks : List Advance) (taken : List ℕ) : Type 0 where
  pub count : length taken ≡ length ports
  pub each : (i : ℕ) (port : Port) → slice_get ports i ≡ Some port → slice_index taken i ≡ taken_by_marks port.side port.channel marks
