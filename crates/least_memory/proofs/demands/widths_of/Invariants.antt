use Rattle.std.proofs.Common.{◌≡◌, ◌≤◌, map, take}
use Rattle.std.specs.Prelude.{All}
use Rattle.least_memory.specs.{Channel}
use Rattle.least_memory.proofs.demands.widths_of.Given as goal

abbrev pub invariant-loop-channel : goal.invariant-loop-channel
invariant-loop-channel l = record {
  value : l.widths ≡ map (λ (c : Channel). c.width) (take l.channel-index l.channels);
  narrow : All (λ w. w ≤ 64) l.widths;
}
