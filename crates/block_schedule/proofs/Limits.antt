-- A sound block keeps the limits that a schedule needs.
use Rattle.std.proofs.Common.{ℕ}
use Rattle.std.specs.Prelude.{All}
use Rattle.flow_design.specs.declared.design.Module.{Module}
use Rattle.block_schedule.specs.{Block, IsBlockSound, IsModuleSound, KeepsLimits}
use Rattle.lockstep_defs.proofs.Blocks.{some_interval, short_interval, span}

pub keeps_limits : (channels : ℕ) (m : Module) (b : Block) → IsBlockSound channels m b → KeepsLimits b
keeps_limits channels m b sound = record {
  some = some_interval channels m b sound;
  short = short_interval channels m b sound;
  span = span channels m b sound;
  most = sound.most;
  in_block = λ k d l. (sound.operations k d l).offset;
  count = sound.count;
}

pub blocks_keep_limits : (channels : ℕ) (m : Module) → IsModuleSound channels m → All KeepsLimits m.blocks
blocks_keep_limits channels m sound k d l = keeps_limits channels m _ (sound.blocks k d l)
