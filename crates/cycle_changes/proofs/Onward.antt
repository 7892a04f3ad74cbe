-- Right records after edits, and final cores as right records.
use Rattle.std.proofs.Common.{◌≡◌, ℕ, ◌<◌, ◌≤◌, Some, arith}
use Rattle.cycle_changes.specs.{Design, IsDesign, Trace, IsHistory, candidate, view, IsFinal, MayRun, IsAgreed, edited, IsChecked, IsRight}
use Rattle.cycle_changes.specs.{IsRightRecord, with_cycles}
use Rattle.event_timing.specs.Core.{Core}
use Rattle.event_timing.proofs.Verdict.{determined_late}
use Rattle.cycle_changes.proofs.{Beginning.final_right, Beginning.final_plain, Marks.marks_on, Local.beside_right, Local.still_right}

module _ {S : Type 0} (d : Design S) (h : Trace S) (i : IsDesign d) (y : IsHistory d h) (limit : ℕ) (x : Core S) (a : IsAgreed d h limit x)
    (f : IsFinal d limit x) where
  pub final_record : IsRightRecord d limit x
  final_record =
      record {
        marks = a.marks;
        within = a.time.within;
        right = final_right d h i y limit x a f;
        below = a.time.below;
        no_run = f.quiet.no_run;
        beyond = λ m c e. (determined_late d h i y limit x a f m c e).0;
        answered = a.time.answered_then;
        there = a.time.there_then;
        verified = a.time.verified_then;
        verified_answered = a.time.verified_answered;
        plain = final_plain d h i y limit x a f;
      }

module _ {S : Type 0} (d : Design S) (limit : ℕ) (x : Core S) (r : IsRightRecord d limit x) (fifo depth : ℕ) (cycles : ℕ → ℕ → ℕ) where
  abbrev now : Core S
  now = with_cycles x cycles

  abbrev design_now : Design S
  design_now = edited d fifo depth

  still_no_run : (m : ℕ) → MayRun design_now now m → ⊥
  still_no_run m z = r.no_run m (grind arith)

  right_now : ((m k : ℕ) → k < x.timed m → IsChecked d x cycles fifo depth 0 m k) → (m k : ℕ) → k < x.timed m → IsRight design_now now m k
  right_now checked m k q =
      grind (arith, checked m k q, still_right design_now x cycles m k, beside_right d x fifo depth m k, r.right m k q)

  pub record_on : ((m k : ℕ) → k < x.timed m → IsChecked d x cycles fifo depth 0 m k) → ((m k : ℕ) → k < x.timed m → cycles m k < limit)
      → ((m c : ℕ) → candidate design_now (view design_now now) m ≡ Some c → limit ≤ c) → IsRightRecord design_now limit now
  record_on checked below beyond =
      record {
        marks = marks_on d x r.marks fifo depth cycles;
        within = r.within;
        right = right_now checked;
        below = below;
        no_run = still_no_run;
        beyond = beyond;
        answered = r.answered;
        there = r.there;
        verified = r.verified;
        verified_answered = r.verified_answered;
        plain = r.plain;
      }
