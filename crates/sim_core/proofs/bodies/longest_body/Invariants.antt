use Rattle.std.proofs.Common.{◌≤◌, ℕ, length, take}
use Rattle.std.specs.Prelude.{All}
use Rattle.sim_core.specs.{HasBodiesWithin}
use Rattle.sim_core.proofs.bodies.longest_body.Given as goal

abbrev pub invariant-loop-block : goal.invariant-loop-block
invariant-loop-block l = record {
  within : All (λ b. length b.ops ≤ l.longest) (take l.block-index l.of.blocks);
  least : (n : ℕ) → HasBodiesWithin l.of n → l.longest ≤ n;
}
