use Rattle.std.proofs.Common.{◌≡◌, ◌++◌, map}
use Rattle.engine_report.specs.{event_line}
use Rattle.engine_report.proofs.events.add_events.Given as goal

abbrev pub invariant-loop-access : goal.invariant-loop-access
invariant-loop-access l =
    l.initial.events ++ map (event_line l.key.module l.key.cycle) l.initial.access-iterator
    ≡ l.events ++ map (event_line l.key.module l.key.cycle) l.access-iterator
