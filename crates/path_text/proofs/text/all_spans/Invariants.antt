use Rattle.std.proofs.Common.{◌≡◌, ℕ, ◌<◌, [], length, slice_index_or}
use Rattle.path_text.specs.{AreSpansBelow}
use Rattle.path_text.proofs.text.all_spans.Given as goal

abbrev pub invariant-loop-owner : goal.invariant-loop-owner
invariant-loop-owner l = record {
  count : length l.spans ≡ l.owner;
  each : (m : ℕ) → m < l.owner → AreSpansBelow l.core.plan m l.clock (slice_index_or l.spans m []);
}
