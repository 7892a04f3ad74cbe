-- What a module does at a step, as it is read off the graph and the table.
use Rattle.std.specs.Prelude.{ℕ, zero, suc, ◌≡◌, ◌<◌, ◌≤◌, Bool, not, ◌&&◌, Option, Some, None, List, find, min, max, take, true, false}
use Rattle.std.specs.Prelude.{slice_index_or}
use Rattle.flow_word.specs.{Access, Place, Step, side_of, is_blocking}
use Rattle.flow_design.specs.{Plan}
use Rattle.event_graph.specs.{Lane, lane_at}
use Rattle.engine_view.specs.{no_step, as_known}
use Rattle.fifo_table.specs.{Channel}
use Rattle.time_engine.specs.{Known, when_possible}
use Rattle.time_engine.specs.declared.known.Known.TheVariants.{From, Never, Unknown}
use Rattle.event_timing.specs.{from, answer}
use Rattle.timelines.specs.{Doing, Span, doing, reached, Comes}
use Rattle.timelines.specs.declared.span.Doing.TheVariants.{Moves, Still}

-- the access blocks, and is not known to be possible in a clock
abbrev pub must_wait : List Lane → List Channel → ℕ → Access → Bool
must_wait lanes channels clock a = is_blocking a.kind && not (answer (as_known (when_possible lanes channels a)) clock)

-- what a module does at a step, by the first access that waits: it moves where none does
abbrev pub doing_of : Option Access → Doing
doing_of None = Moves
doing_of (Some a) = Still (record { side = side_of a.kind; channel = a.channel })

abbrev pub doing_in : List Lane → List Channel → List Access → ℕ → Doing
doing_in lanes channels accesses clock = doing_of (find (must_wait lanes channels clock) accesses)

-- module i is at a step with these accesses from clock `first` on, up to clock `until`
abbrev pub StandsBetween : Plan → ℕ → List Lane → List Channel → List Access → ℕ → ℕ → Type 0
StandsBetween p i lanes channels accesses first until =
    (c : ℕ) → first ≤ c → c < until → doing p c i ≡ Some (doing_in lanes channels accesses c)

-- the clock from which on an access is possible, or `until` where that is earlier
abbrev pub known_until : Known → ℕ → ℕ
known_until (From clock) until = min clock until
known_until Never until = until
known_until Unknown until = until

-- the new spans are the old ones and those clocks, up to `until`, in which one of the first n accesses of a module's step is the
-- cause of its stall
pub record HasWaited (lanes : List Lane) (channels : List Channel) (accesses : List Access) (until n : ℕ)
    (old new : List Span) : Type 0 where
  pub comes : (p : Plan) (i : ℕ) → Comes p i old → StandsBetween p i lanes channels accesses (reached old) until → Comes p i new
  pub later : reached old ≤ reached new
  pub within : reached new ≤ max (reached old) until
  -- after the new spans none of these accesses is the cause
  pub clear : (c : ℕ) → reached new ≤ c → c < until → find (must_wait lanes channels c) (take n accesses) ≡ None

-- the new spans are the old ones and those clocks, up to `until`, in which the given access waits and so is the cause
pub record HasPassed (lanes : List Lane) (channels : List Channel) (a : Access) (until : ℕ) (old new : List Span) : Type 0 where
  pub comes : (p : Plan) (i : ℕ) → Comes p i old
      → ((c : ℕ) → reached old ≤ c → c < until → must_wait lanes channels c a ≡ true → doing p c i ≡ Some (doing_of (Some a)))
      → Comes p i new
  pub later : reached old ≤ reached new
  pub within : reached new ≤ max (reached old) until
  pub clear : (c : ℕ) → reached new ≤ c → c < until → must_wait lanes channels c a ≡ false

-- the step at a place
abbrev pub lane_step : List Lane → Place → Step
lane_step lanes place = slice_index_or (lane_at lanes place.module).steps place.step no_step

-- the cycle of the step before step k, or clock 0 before the first step
abbrev pub cycle_before : List ℕ → ℕ → ℕ
cycle_before cycles zero = 0
cycle_before cycles (suc k) = slice_index_or cycles k 0

-- the clock after the first k steps, or clock 0 before the first step
abbrev pub clock_after : List ℕ → ℕ → ℕ
clock_after cycles k = from (λ j. slice_index_or cycles j 0) k

-- these are the spans of module i up to the clock after its first k steps, or up to `clock` where that is earlier
pub record HasPassedSteps (p : Plan) (i clock : ℕ) (cycles : List ℕ) (k : ℕ) (spans : List Span) : Type 0 where
  pub comes : Comes p i spans
  pub reached : reached spans ≡ min (clock_after cycles k) clock
