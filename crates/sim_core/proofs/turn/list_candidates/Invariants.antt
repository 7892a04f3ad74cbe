use Rattle.std.proofs.Common.{◌≡◌, ℕ, ◌-◌, ◌<◌, ◌⊎◌, length}
use Rattle.std.specs.Prelude.{slice_index_or}
use Rattle.event_graph.specs.declared.candidate.Candidate.TheVariants.{Nothing}
use Rattle.sim_core.specs.{IsCandidate, IsListed}
use Rattle.sim_core.proofs.turn.list_candidates.Given as goal

abbrev pub invariant-loop-owner : goal.invariant-loop-owner
invariant-loop-owner l = record {
  count : length l.candidates ≡ length l.graph.lanes;
  all : (n : ℕ) → n < length l.graph.lanes → (n < l.from) ⊎ IsListed l.due n
      → IsCandidate l.graph.lanes l.fifos.channels l.limit n (slice_index_or l.candidates n Nothing);
}

abbrev pub decreases-loop-owner : goal.decreases-loop-owner
decreases-loop-owner l = length l.graph.lanes - l.from
