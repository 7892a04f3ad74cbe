-- The marks of a core speak of no cycle, of no depth, and not of what is verified.
use Rattle.std.proofs.Common.{arith, ℕ}
use Rattle.cycle_changes.specs.{Design, own, AreOwnMarks, edited, after_edit, with_cycles}
use Rattle.event_timing.specs.Core.{Core}

module _ {S : Type 0} (d : Design S) (x : Core S) (b : AreOwnMarks d x) where
  -- under another depth, and with other cycles
  pub marks_on : (fifo depth : ℕ) (cycles : ℕ → ℕ → ℕ) → AreOwnMarks (edited d fifo depth) (with_cycles x cycles)
  unfolding own
  marks_on fifo depth cycles = grind arith

  -- and where the core is cut at a clock
  pub marks_cut : (t : ℕ) → AreOwnMarks d (after_edit d x t)
  unfolding own
  marks_cut t = grind arith
