use Rattle.std.specs.Prelude.{◌-◌, ◌≤◌, ◌<◌, ℕ, length, slice_index_or}
use Rattle.path_text.specs.{Span}
use Rattle.path_text.proofs.spans.span_with.Given as goal

abbrev pub invariant-loop-low : goal.invariant-loop-low
invariant-loop-low l =
    record {
      within : l.high ≤ length l.spans;
      below : (k : ℕ) (d : Span) → k < l.low → (slice_index_or l.spans k d).until ≤ l.clock;
      above : (k : ℕ) (d : Span) → l.high ≤ k → k < length l.spans → l.clock < (slice_index_or l.spans k d).first;
    }

abbrev pub decreases-loop-low : goal.decreases-loop-low
decreases-loop-low l = l.high - l.low
