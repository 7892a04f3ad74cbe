-- Walks over the clocks of all FIFOs of a plan, side by side.
use Rattle.std.specs.Prelude.{ℕ, ◌≡◌, ◌≤◌, ◌==◌, min, fold, if◌then◌else◌, Option, Some, None, List, [], ◌∷◌, All, map}
use Rattle.flow_design.specs.{Plan}
use Rattle.timelines.specs.{fifos}
use Rattle.port_clocks.specs.{FifoWalk, IsFifoWalk, never, next_of}
use Rattle.vcd_wave.specs.{declared.walk.FillChange.FillChange, Wave.Change}

-- the walk may be taken to be at this clock: from its own clock up to this one nothing is popped or pushed
pub record StandsBy (p : Plan) (clock : ℕ) (walk : FifoWalk) : Type 0 where
  pub is_walk : IsFifoWalk p walk
  pub from : walk.clock ≤ clock
  pub until : clock ≤ next_of walk

-- these are walks of all FIFOs, in order of declaration, and each may be taken to be at this clock
pub record AreWalks (p : Plan) (clock : ℕ) (walks : List FifoWalk) : Type 0 where
  pub channels : map (λ (w : FifoWalk). w.channel) walks ≡ fifos p
  pub each : All (StandsBy p clock) walks

-- the clock of the next pop or push of any of these walks
abbrev pub least_next : List FifoWalk → ℕ
least_next walks = fold (λ least w. min least (next_of w)) never walks

-- how many elements a FIFO holds now, if it held another number before
abbrev pub other_fill : ℕ → ℕ → Option ℕ
other_fill before now = if now == before then None else Some now

-- a change in the form that the wave has
abbrev pub change_of : FillChange → Change
change_of c = record { fifo = c.fifo; fill = c.fill }

-- the change of this FIFO, if there is one
abbrev pub change_if : ℕ → Option ℕ → List Change
change_if fifo None = []
change_if fifo (Some fill) = record { fifo = fifo; fill = fill } ∷ []
