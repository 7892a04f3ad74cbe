use Rattle.std.proofs.Common.{◌≡◌, map, take}
use Rattle.session_tests.specs.{test_at}
use Rattle.session_tests.proofs.schedules.block_of_tests.Given as goal

abbrev pub invariant-loop-offset : goal.invariant-loop-offset
invariant-loop-offset l = l.ops ≡ map test_at (take l.offset-index l.offsets)
