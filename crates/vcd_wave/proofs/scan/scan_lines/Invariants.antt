use Rattle.std.proofs.Common.{length}
use Rattle.vcd_wave.specs.{Scan as State, opening_scan, ScanLeads}
use Rattle.vcd_wave.proofs.scan.scan_lines.Given as goal

abbrev pub invariant-loop-rest : goal.invariant-loop-rest
invariant-loop-rest l =
    ((r : State) → ScanLeads l.asked l.scan l.rest r → ScanLeads l.asked (opening_scan l.asked.count) l.fn.text r)
    × ((r : State) → ScanLeads l.asked (opening_scan l.asked.count) l.fn.text r → ScanLeads l.asked l.scan l.rest r)

abbrev pub decreases-loop-rest : goal.decreases-loop-rest
decreases-loop-rest l = length l.rest
