use Rattle.std.proofs.Common.{◌≡◌, ℕ, ◌<◌, length, get_or}
use Rattle.module_code.specs.{block_at, BlockCode, IsBlockCodeOf}
use Rattle.module_code.proofs.code.codes_of.Given as goal

-- the code of the blocks so far
abbrev pub invariant-loop-block : goal.invariant-loop-block
invariant-loop-block l = record {
  count : length l.codes ≡ l.block-index;
  each : (n : ℕ) (d : BlockCode) → n < l.block-index → IsBlockCodeOf l.channels l.of (block_at l.of n) (get_or l.codes n d);
}
