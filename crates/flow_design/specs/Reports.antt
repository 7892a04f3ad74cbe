-- What a report tells.
use Rattle.std.specs.Prelude.{ℕ}
use Rattle.flow_design.specs.declared.report.Verdict.{Verdict}
use Rattle.flow_design.specs.declared.report.Verdict.TheVariants.{Done, Deadlock, Cycles, Ops}

-- the clock of a verdict
abbrev pub clock_of : Verdict → ℕ
clock_of (Done clock) = clock
clock_of (Deadlock clock) = clock
clock_of (Cycles clock) = clock
clock_of (Ops clock) = clock
