use Rattle.std.proofs.Common.{◌≡◌, ◌++◌, map, take}
use Rattle.clock_machine.specs.{event_by}
use Rattle.clock_machine.proofs.telling.tell_events.Given as goal

abbrev pub invariant-loop-request : goal.invariant-loop-request
invariant-loop-request l = l.events ≡ l.initial.events ++ map (event_by l.clock l.i) (take l.request-index l.requests)
