-- A right record is final.
use Rattle.std.proofs.Common.{ℕ, arith}
use Rattle.cycle_changes.specs.{Design, IsFinal, IsDetermined, IsRightRecord}
use Rattle.event_timing.specs.Core.{Core}

module _ {S : Type 0} (d : Design S) (limit : ℕ) (x : Core S) (r : IsRightRecord d limit x) where
  not_determined : (m c : ℕ) → IsDetermined d limit x m c → ⊥
  not_determined m c e = omega (arith, r.beyond m c e.at, e.below)

  pub right_final : IsFinal d limit x
  right_final =
      let none = not_determined in
      grind (arith, r.no_run)
