use Rattle.std.proofs.Common.{◌≡◌, map, take, replicate}
use Rattle.module_code.proofs.opening.zero_memories.Given as goal

-- the memories so far are all 0
abbrev pub invariant-loop-memory : goal.invariant-loop-memory
invariant-loop-memory l = l.words ≡ map (λ memory. replicate memory.len 0) (take l.memory-index l.memories)
