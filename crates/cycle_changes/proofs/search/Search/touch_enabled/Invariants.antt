use Rattle.std.specs.Prelude.{All}
use Rattle.cycle_changes.specs.{IsAccess}
use Rattle.cycle_changes.proofs.search.Search.touch_enabled.Given as goal

abbrev pub invariant-loop-access : goal.invariant-loop-access
invariant-loop-access l = All (IsAccess l.fifos.channels) l.access-iterator
