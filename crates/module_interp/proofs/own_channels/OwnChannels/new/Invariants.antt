use Rattle.std.proofs.Common.{take}
use Rattle.std.specs.Prelude.{All}
use Rattle.module_interp.specs.{IsGathered}
use Rattle.module_interp.proofs.own_channels.OwnChannels.new.Given as goal

-- the channels of the blocks so far
abbrev pub invariant-loop-block : goal.invariant-loop-block
invariant-loop-block l = All (λ b. All (λ t. IsGathered l.side l.items.items t.op) b.ops) (take l.block-index l.of.blocks)
