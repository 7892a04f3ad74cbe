-- The blocks of the tests: each operation tests whether the only channel is empty.
use Rattle.std.specs.Prelude.{ℕ, List, [], map, None}
use Rattle.flow_design.specs.{declared.expr.Op.TheVariants.Empty, BlockKind, Timed, Block, declared.design.Next.TheVariants.Stop}

-- the operation at an offset, which tests the channel
abbrev pub test_at : ℕ → Timed
test_at offset = record { offset = offset; guard = None; op = Empty 0 0 }

abbrev pub tests_at : BlockKind → ℕ → List ℕ → Block
tests_at kind len offsets = record { kind = kind; len = len; temps = []; ops = map test_at offsets; next = Stop }
