use Rattle.std.proofs.Common.{◌≡◌, ℕ, ◌<◌, length, take, slice_index}
use Rattle.path_text.specs.{times_polled}
use Rattle.path_text.proofs.counts.polls_by_channel.Given as goal

abbrev pub invariant-loop-poll : goal.invariant-loop-poll
invariant-loop-poll l = record {
  count : length l.times ≡ l.channels;
  each : (f : ℕ) → f < l.channels → slice_index l.times f ≡ times_polled (take l.poll-index l.polls) f;
}
