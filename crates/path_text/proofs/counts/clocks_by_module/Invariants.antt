use Rattle.std.proofs.Common.{◌≡◌, ℕ, ◌<◌, length, take, slice_index}
use Rattle.path_text.specs.{clocks_spent}
use Rattle.path_text.proofs.counts.clocks_by_module.Given as goal

abbrev pub invariant-loop-link : goal.invariant-loop-link
invariant-loop-link l = record {
  count : length l.clocks ≡ l.modules;
  each : (m : ℕ) → m < l.modules → slice_index l.clocks m ≡ clocks_spent (take l.link-index l.links) m;
}
