-- What is known of the cycles of the modules' first steps without one.
use Rattle.std.specs.Prelude.{◌≡◌, ◌↔◌, ℕ, ◌<◌, List, length, slice_index_or, Some}
use Rattle.flow_design.specs.{Plan, ModuleState}
use Rattle.event_graph.specs.{Lane, Candidate}
use Rattle.event_graph.specs.declared.candidate.Candidate.TheVariants.{At, Nothing}
use Rattle.event_timing.specs.{Core.Core, IsDetermined}
use Rattle.fifo_table.specs.{Channel}
use Rattle.time_engine.specs.{determined}
use Rattle.timing_bridge.specs.{design}
use Rattle.sim_core.specs.{Asking.Lacks, Asking.SetHasRoom, declared.due.DueModules.DueModules}

-- the candidate of a module is at a cycle exactly where that is determined, below the limit
abbrev pub IsCandidate : List Lane → List Channel → ℕ → ℕ → Candidate → Type 0
IsCandidate lanes channels limit m a = (cycle : ℕ) → (a ≡ At cycle) ↔ ((determined lanes channels m ≡ Some cycle) × (cycle < limit))

-- the candidate of each of the first `many` modules is at a cycle exactly where that is determined, below the limit
abbrev pub AreCandidates : List Lane → List Channel → ℕ → ℕ → List Candidate → Type 0
AreCandidates lanes channels limit many candidates =
    (m cycle : ℕ) → m < many → (slice_index_or candidates m Nothing ≡ At cycle) ↔
    ((determined lanes channels m ≡ Some cycle) × (cycle < limit))

-- a module is neither asking nor unlisted
abbrev pub IsListed : DueModules → ℕ → Type 0
IsListed due n = Lacks due.asking n × Lacks due.unlisted n

-- there is a candidate for each module, and it is right of those that are neither asking nor unlisted
pub record AreListed (p : Plan) (x : Core ModuleState) (due : DueModules) (candidates : List Candidate) : Type 0 where
  pub count : length candidates ≡ length p.design.modules
  pub room : SetHasRoom p due.unlisted
  pub right : (n : ℕ) → n < length p.design.modules → IsListed due n → (cycle : ℕ)
      → (slice_index_or candidates n Nothing ≡ At cycle) ↔ IsDetermined (design p) p.cycles x n cycle
