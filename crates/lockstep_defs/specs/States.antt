-- What holds of each state that a module comes to.
use Rattle.std.specs.Prelude.{ℕ, ◌≡◌, ◌+◌, ◌<◌, ◌≤◌, IsTrue, IsFalse, length, map, slice_index}
use Rattle.flow_design.specs.{Block, Control, Due, ModuleState, block_of, is_loop, interval, live_count, temps_of}
use Rattle.flow_design.specs.declared.design.Module.{Module}
use Rattle.lockstep_defs.specs.{Machine.memory_of, Quiet.keeps_looping}

-- the state has a value for each of the module's registers and memory words, and for each temp of `iterations` iterations of the
-- block
pub record HasAllPlaces (m : Module) (b : Block) (iterations : ℕ) (s : ModuleState) : Type 0 where
  pub registers : length s.registers ≡ length m.registers
  pub memories : length s.memories ≡ length m.memories
  pub words : (n : ℕ) → length (memory_of s n) ≡ slice_index (map (λ memory. memory.len) m.memories) n
  pub temps : length s.temps ≡ iterations
  pub each_temps : (i : ℕ) → i < iterations → length (temps_of s i) ≡ length b.temps

-- the control is one that the block can come to
pub record IsWithin (b : Block) (k : Control) : Type 0 where
  -- the newest iteration has started
  pub has_started : k.newest ≤ k.clock
  -- only in a loop can a further iteration start
  pub is_loop_going : IsTrue k.looping → IsTrue (is_loop b.kind)
  -- while a further iteration can start, the newest one is younger than II
  pub goes : IsTrue (keeps_looping k (interval b))

-- the state is one that the module can have: it names one of its blocks, and fits it
pub record IsStateOf (m : Module) (s : ModuleState) : Type 0 where
  pub block : s.control.block < length m.blocks
  -- the temps are those of the live iterations
  pub places : HasAllPlaces m (block_of m s) (live_count (block_of m s) s.control) s
  pub control : IsWithin (block_of m s) s.control
  -- the block is not over, unless the module is ended
  pub young : IsFalse s.ended → s.control.clock < s.control.newest + (block_of m s).len

-- a due operation names a live iteration and an operation of the block
pub record IsDueIn (b : Block) (iterations : ℕ) (d : Due) : Type 0 where
  pub iteration : d.iteration < iterations
  pub op : d.op < length b.ops
