use Rattle.std.proofs.Common.{◌≡◌, ◌++◌, map, take}
use Rattle.report_text.specs.{text_of_lines, event_tokens}
use Rattle.report_text.proofs.report.print_events.Given as goal

abbrev pub invariant-loop-event : goal.invariant-loop-event
invariant-loop-event l = l.text ≡ l.fn.text ++ text_of_lines (map (event_tokens l.design) (take l.event-index l.events))
