-- The limits of a sound block.
use Rattle.std.proofs.Common.{arith, ℕ, ◌*◌, ◌<◌, ◌≤◌, length}
use Rattle.flow_design.specs.{declared.limits.TheConstants.LIVE_ITERATIONS, declared.design.Module.Module}
use Rattle.flow_design.specs.declared.design.BlockKind.TheVariants.{Plain, Loop}
use Rattle.lockstep_defs.specs.{BlockKind, Block, no_block, block_at, interval, interval_of, IsKindSound, IsBlockSound, IsModuleSound}

pub block_sound : (channels : ℕ) (m : Module) (n : ℕ) → IsModuleSound channels m → n < length m.blocks
    → IsBlockSound channels m (block_at m n)
block_sound channels m n h there = h.blocks n no_block there

some_of : (registers len : ℕ) (k : BlockKind) → 1 ≤ len → IsKindSound registers len k → 0 < interval_of k len
some_of registers len Plain l s = l
some_of registers len (Loop ii again) l s = s.interval

pub some_interval : (channels : ℕ) (m : Module) (b : Block) → IsBlockSound channels m b → 0 < interval b
some_interval channels m b h = some_of (length m.registers) b.len b.kind h.least h.kind

short_of : (registers len : ℕ) (k : BlockKind) → IsKindSound registers len k → interval_of k len ≤ len
short_of registers len Plain s = omega arith
short_of registers len (Loop ii again) s = s.least

pub short_interval : (channels : ℕ) (m : Module) (b : Block) → IsBlockSound channels m b → interval b ≤ b.len
short_interval channels m b h = short_of (length m.registers) b.len b.kind h.kind

span_of : (registers len : ℕ) (k : BlockKind) → IsKindSound registers len k → len ≤ LIVE_ITERATIONS * interval_of k len
span_of registers len Plain s = omega arith
span_of registers len (Loop ii again) s = s.most

pub span : (channels : ℕ) (m : Module) (b : Block) → IsBlockSound channels m b → b.len ≤ LIVE_ITERATIONS * interval b
span channels m b h = span_of (length m.registers) b.len b.kind h.kind
