-- The operations of the history, in the order in which they were done.
use Rattle.std.specs.{Prelude.ℕ, Prelude.◌==◌, Prelude.if◌then◌else◌, Prelude.List, Prelude.[], Prelude.map, List.flat_map}
use Rattle.flow_word.specs.{Side}
use Rattle.flow_design.specs.{Plan}
use Rattle.lockstep_defs.specs.{HistoryStep, Exchange, moved_value, history}
use Rattle.timelines.specs.Fills.{last_clock}

-- an operation that was done, with its step
abbrev pub Act : Type 0
Act = HistoryStep × Exchange

-- the operations of these steps, in order
abbrev pub acts_in : List HistoryStep → List Act
acts_in steps = flat_map (λ s. map (λ x. (s, x)) s.exchanges) steps

-- the operations done before a clock, in order
abbrev pub acts_before : Plan → ℕ → List Act
acts_before p clock = acts_in (history p clock)

-- all operations of a simulation: those done before the verdict's clock
unfoldable pub acts : Plan → List Act
acts p = acts_before p (last_clock p)

-- the values that these operations popped off a channel, or pushed on it, in order
abbrev pub values_moved : Side → ℕ → List Act → List ℕ
values_moved side f done = flat_map (λ a. if a.1.request.channel == f then moved_value side a.1 else []) done
