use Rattle.std.specs.Prelude.{◌-◌, ◌≤◌, ◌<◌, ℕ, length, slice_index_or}
use Rattle.path_text.specs.{Find, find_clock}
use Rattle.path_text.proofs.search.count_until.Given as goal

abbrev pub invariant-loop-low : goal.invariant-loop-low
invariant-loop-low l = record {
  within : l.high ≤ length l.finds;
  above : (k : ℕ) (d : Find) → l.high ≤ k → k < length l.finds → l.clock < find_clock (slice_index_or l.finds k d);
}

abbrev pub decreases-loop-low : goal.decreases-loop-low
decreases-loop-low l = l.high - l.low
