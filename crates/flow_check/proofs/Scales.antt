-- The limits at each scale are within those of the engine.
use Rattle.std.proofs.{Common.ℕ, Common.◌*◌, Common.◌≤◌, Common.arith, lemmas.Bool.Decides.nat_tests}
use Rattle.flow_design.specs.declared.limits.Limits.{Limits}
use Rattle.flow_design.specs.declared.limits.Scale.TheVariants.{Standard, Large}
use Rattle.flow_design.specs.declared.limits.TheConstants.{MODULES, CHANNELS, REGISTERS, TEMPS, MEMORIES, MEMORY_WORDS, BLOCKS, OPERATIONS}
use Rattle.flow_design.specs.declared.limits.TheConstants.{LIVE_ITERATIONS, BLOCK_CLOCKS, INPUT_VALUES, COUNTED_OPERATIONS}
use Rattle.flow_check.specs.{Scale, limits_at, longest_block}

pub record AreMost (limits : Limits) : Type 0 where
  pub modules : limits.modules ≤ MODULES
  pub channels : limits.channels ≤ CHANNELS
  pub registers : limits.registers ≤ REGISTERS
  pub temps : limits.temps ≤ TEMPS
  pub memories : limits.memories ≤ MEMORIES
  pub memory_words : limits.memory_words ≤ MEMORY_WORDS
  pub blocks : limits.blocks ≤ BLOCKS
  pub operations : limits.operations ≤ OPERATIONS
  pub block_clocks : limits.block_clocks ≤ BLOCK_CLOCKS
  pub input_values : limits.input_values ≤ INPUT_VALUES
  pub counted_operations : limits.counted_operations ≤ COUNTED_OPERATIONS

pub limits_most : (scale : Scale) → AreMost (limits_at scale)
limits_most Standard = record {
  modules = omega arith;
  channels = omega arith;
  registers = omega arith;
  temps = omega arith;
  memories = omega arith;
  memory_words = omega arith;
  blocks = omega arith;
  operations = omega arith;
  block_clocks = omega arith;
  input_values = omega arith;
  counted_operations = omega arith;
}
limits_most Large = record {
  modules = omega arith;
  channels = omega arith;
  registers = omega arith;
  temps = omega arith;
  memories = omega arith;
  memory_words = omega arith;
  blocks = omega arith;
  operations = omega arith;
  block_clocks = omega arith;
  input_values = omega arith;
  counted_operations = omega arith;
}

pub live_most : (scale : Scale) (ii : ℕ) → (limits_at scale).live_iterations * ii ≤ LIVE_ITERATIONS * ii
live_most Standard ii = omega arith
live_most Large ii = omega arith

-- blocks may be long at the scale that counts few operations
pub at_pace : (scale : Scale) (ops len : ℕ) → ops ≤ (limits_at scale).counted_operations → len ≤ (limits_at scale).block_clocks
    → len ≤ longest_block ops
at_pace Standard ops len counted clocks = grind (arith, nat_tests)
at_pace Large ops len counted clocks = grind (arith, nat_tests)
