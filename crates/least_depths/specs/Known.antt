-- Which depths of a FIFO are known to be too late, and which to be in time.
use Rattle.std.specs.Prelude.{◌≡◌, ℕ, ◌<◌, ◌≤◌, true, false, slice_index}
use Rattle.flow_design.specs.{Plan, with_depth}
use Rattle.least_depths.specs.{Lowering.is_in_time, declared.halving.KnownDepths.KnownDepths}

-- the plan q differs from p at most in the depth of channel f
abbrev pub IsAlike : Plan → ℕ → Plan → Type 0
IsAlike p f q = (d : ℕ) → with_depth q f d ≡ with_depth p f d

-- of the lower depths of channel f, those below `late_below` are too late, and those from `timely_from` on are in time
pub record AreKnown (p : Plan) (f : ℕ) (known : KnownDepths) : Type 0 where
  pub late : (d : ℕ) → 1 ≤ d → d < slice_index p.depths f → d < known.late_below → is_in_time p known.clock f d ≡ false
  pub timely : (d : ℕ) → 1 ≤ d → d < slice_index p.depths f → known.timely_from ≤ d → is_in_time p known.clock f d ≡ true
