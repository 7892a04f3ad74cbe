use Rattle.std.proofs.Common.{◌≡◌, ℕ, ◌<◌, length, take, slice_index}
use Rattle.path_text.specs.{clocks_waited}
use Rattle.path_text.proofs.counts.waiting_by_channel.Given as goal

abbrev pub invariant-loop-poll : goal.invariant-loop-poll
invariant-loop-poll l = record {
  count : length l.clocks ≡ l.channels;
  each : (f : ℕ) → f < l.channels → slice_index l.clocks f ≡ clocks_waited (take l.poll-index l.polls) f;
}
