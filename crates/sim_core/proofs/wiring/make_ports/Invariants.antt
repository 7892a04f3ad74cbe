use Rattle.std.specs.Prelude.{◌≡◌, ℕ, ◌<◌, [], length, slice_index_or}
use Rattle.sim_core.specs.{ports_to}
use Rattle.sim_core.proofs.wiring.make_ports.Given as goal

-- each module has its ports of the channels so far
abbrev pub invariant-loop-channel : goal.invariant-loop-channel
invariant-loop-channel l = record {
  count : length l.ports ≡ length l.plan.design.modules;
  each : (m : ℕ) → m < length l.plan.design.modules → slice_index_or l.ports m [] ≡ ports_to l.plan m l.channel;
}
