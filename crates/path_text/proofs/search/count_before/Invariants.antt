use Rattle.std.specs.Prelude.{◌-◌, ◌≤◌, ◌<◌, ℕ, length, slice_index}
use Rattle.path_text.proofs.search.count_before.Given as goal

abbrev pub invariant-loop-low : goal.invariant-loop-low
invariant-loop-low l = record {
  within : l.high ≤ length l.clocks;
  below : (k : ℕ) → k < l.low → slice_index l.clocks k < l.clock;
  above : (k : ℕ) → l.high ≤ k → k < length l.clocks → l.clock ≤ slice_index l.clocks k;
}

abbrev pub decreases-loop-low : goal.decreases-loop-low
decreases-loop-low l = l.high - l.low
