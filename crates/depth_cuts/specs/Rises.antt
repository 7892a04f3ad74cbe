-- A lower bound on the bits that it takes to meet the cuts.
use Rattle.std.specs.Prelude.{◌≡◌, ℕ, ◌+◌, ◌≤◌, List, length, slice_index, All}
use Rattle.depth_cuts.specs.{declared.cuts.Demands.Demands, Met.IsMet, Cuts.AreAbove, Cuts.bits_of}

-- all depths that are no less than these and meet the cuts take at least `rises` bits more
abbrev pub AddsBits : Demands → List ℕ → ℕ → Type 0
AddsBits demands depths rises =
    (es : List ℕ) → AreAbove depths es → All (λ cut. IsMet cut es) demands.cuts
    → bits_of demands.widths depths + rises ≤ bits_of demands.widths es

-- there are depths that differ from `depths` in used channels alone, are no greater than `es`, and take at least `rises` bits more
pub record HasDepthsBetween (widths used depths es : List ℕ) (rises : ℕ) : Type 0 where
  pub between : List ℕ
  pub count : length between ≡ length depths
  pub unused : (f : ℕ) → slice_index used f ≡ 0 → slice_index between f ≡ slice_index depths f
  pub below : (f : ℕ) → slice_index between f ≤ slice_index es f
  pub bits : bits_of widths depths + rises ≤ bits_of widths between

-- for all depths that are no less than these and meet the cuts, such depths lie between the two
abbrev pub ReachesBits : Demands → List ℕ → List ℕ → ℕ → Type 0
ReachesBits demands used depths rises =
    (es : List ℕ) → AreAbove depths es → All (λ cut. IsMet cut es) demands.cuts → HasDepthsBetween demands.widths used depths es rises
