use Rattle.std.proofs.Common.{◌≡◌, ℕ, ◌<◌, length, take, slice_index}
use Rattle.path_text.specs.{crossings}
use Rattle.path_text.proofs.counts.crossings_by_channel.Given as goal

abbrev pub invariant-loop-link : goal.invariant-loop-link
invariant-loop-link l = record {
  count : length l.times ≡ l.channels;
  each : (f : ℕ) → f < l.channels → slice_index l.times f ≡ crossings (take l.link-index l.links) l.side f;
}
