-- What a report says, in short.
use Rattle.std.specs.Prelude.{◌≡◌, ℕ, Bool, List}
use Rattle.flow_word.specs.{Access, Kind}
use Rattle.flow_design.specs.{Plan, EventLine, Held, Verdict, Advance, declared.state.Advance.TheVariants.Step}
use Rattle.lockstep_defs.specs.Report.{report}

-- the plan's report has this verdict, these outputs and these held modules
pub record Shows (p : Plan) (verdict : Verdict) (outputs : List (List ℕ)) (held : List Held) : Type 0 where
  pub verdict_is : (report p).verdict ≡ verdict
  pub outputs_are : (report p).outputs ≡ outputs
  pub held_are : (report p).held ≡ held

-- the line of an event: module, kind, channel and clock
abbrev pub event : ℕ → Kind → ℕ → ℕ → EventLine
event i kind channel cycle = record { «module» = i; kind = kind; channel = channel; cycle = cycle }

-- module i is held by a channel that is full, or else empty
abbrev pub held_by_channel : ℕ → Bool → ℕ → Held
held_by_channel i full channel = record { «module» = i; full = full; channel = channel }

-- an access with its kind, its channel, its ordinal, and the value that it pushes
abbrev pub access : Kind → ℕ → ℕ → ℕ → Access
access kind channel ordinal value = record { kind = kind; channel = channel; ordinal = ordinal; value = value }

-- the mark of a step: its gap, its accesses, and how many queries the module made before
abbrev pub step_mark : ℕ → List Access → ℕ → Advance
step_mark gap accesses first_query = Step (record { gap = gap; accesses = accesses; first_query = first_query })
