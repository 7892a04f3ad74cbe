use Rattle.std.proofs.Common.{◌≡◌}
use Rattle.std.specs.Prelude.{replicate}
use Rattle.clock_machine.specs.{no_memo}
use Rattle.clock_machine.proofs.memo.memos_for.Given as goal

abbrev pub invariant-loop : goal.invariant-loop
invariant-loop l = l.memos ≡ replicate l.counter no_memo
