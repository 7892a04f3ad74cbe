use Rattle.std.proofs.Common.{ℕ}
use Rattle.path_check.specs.{OneWaits, depths_with}
use Rattle.path_check.proofs.waits.find_lag.Given as goal

-- if one of those that are left waits, then one of all does
abbrev pub invariant-loop-access : goal.invariant-loop-access
invariant-loop-access l =
    (lag : ℕ) → OneWaits l.engine.fifos.channels (depths_with l.depths l.edit) l.access-iterator l.place lag
    → OneWaits l.engine.fifos.channels (depths_with l.depths l.edit) l.accesses l.place lag
