use Rattle.std.proofs.Common.{ℕ, take}
use Rattle.std.specs.Prelude.{All, Contains}
use Rattle.module_interp.specs.{IsGathered}
use Rattle.module_interp.proofs.own_channels.gather.Given as goal

-- the channels of the operations so far
abbrev pub invariant-loop-timed : goal.invariant-loop-timed
invariant-loop-timed l = record {
  kept : (f : ℕ) → Contains l.initial.channels.items f → Contains l.channels.items f;
  gathered : All (λ t. IsGathered l.side l.channels.items t.op) (take l.timed-index l.ops);
}
