use Rattle.std.proofs.Common.{◌≡◌, ℕ, ◌<◌, ◌≤◌, ◌∷◌, ◌++◌, length, not, false, get_or}
use Rattle.std.specs.Prelude.{filter}
use Rattle.time_engine.specs.{is_blocking, Access, is_waiting, clocks_of, latest}
use Rattle.time_engine.proofs.timing.latest_and_queries.Given as goal

-- of the accesses so far none waits, the cycle is the latest, and the queries are counted
abbrev pub invariant-loop-access : goal.invariant-loop-access
invariant-loop-access l = record {
  all : l.accesses ≡ l.yielded ++ l.access-iterator;
  count : l.number ≡ length l.yielded;
  none : (k : ℕ) (d : Access) → k < length l.yielded → is_waiting l.graph.lanes l.fifos.channels (get_or l.accesses k d) ≡ false;
  latest : l.cycle ≡ latest (l.clock ∷ clocks_of l.graph.lanes l.fifos.channels l.yielded);
  queries : l.queries ≡ length (filter (λ (a : Access). not (is_blocking a.kind)) l.yielded);
  few : l.queries ≤ l.number;
}
