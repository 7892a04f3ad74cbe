-- The cheapest depths that meet cuts.
use Rattle.std.specs.Prelude.{◌≡◌, ℕ, ◌+◌, ◌*◌, ◌<◌, ◌≤◌, ◌⊎◌, Option, None, Some, List, [], ◌∷◌, length, slice_index, All}
use Rattle.flow_design.specs.declared.limits.TheConstants.{CHANNELS, FIFO_DEPTH}
use Rattle.depth_cuts.specs.{declared.cuts.Need.Need, declared.cuts.Demands.Demands, Met.IsMet}

-- ---- which depths meet the demands

-- there is a depth for each floor, and it is no less than the floor
pub record AreAbove (floors depths : List ℕ) : Type 0 where
  pub count : length depths ≡ length floors
  pub least : (f : ℕ) → slice_index floors f ≤ slice_index depths f

-- the depths are at least the floors, and meet all cuts
pub record Covers (demands : Demands) (depths : List ℕ) : Type 0 where
  pub above : AreAbove demands.floors depths
  pub met : All (λ cut. IsMet cut depths) demands.cuts

-- ---- which depths come first

-- the bits that FIFOs with these widths and depths take
unfoldable pub bits_of : List ℕ → List ℕ → ℕ
bits_of [] depths = 0
bits_of (w ∷ widths) [] = 0
bits_of (w ∷ widths) (d ∷ depths) = w * d + bits_of widths depths

-- the first list has the lesser item at the first place where they differ
pub record IsEarlier (ds es : List ℕ) : Type 0 where
  pub place : ℕ
  pub same : (f : ℕ) → f < place → slice_index ds f ≡ slice_index es f
  pub less : slice_index ds place < slice_index es place

-- the first depths take fewer bits than the second; or as many, and are lexicographically earlier
abbrev pub ComesBefore : List ℕ → List ℕ → List ℕ → Type 0
ComesBefore widths ds es = (bits_of widths ds < bits_of widths es) ⊎ ((bits_of widths ds ≡ bits_of widths es) × IsEarlier ds es)

abbrev pub IsNoWorse : List ℕ → List ℕ → List ℕ → Type 0
IsNoWorse widths ds es = (ds ≡ es) ⊎ ComesBefore widths ds es

-- the depths meet the demands, and come first of all that do
pub record IsCheapest (demands : Demands) (depths : List ℕ) : Type 0 where
  pub covers : Covers demands depths
  pub first : (es : List ℕ) → Covers demands es → IsNoWorse demands.widths depths es

-- `Some` has the cheapest depths; with `None`, no depths meet the demands
abbrev pub AreCheapest : Demands → Option (List ℕ) → Type 0
AreCheapest demands None = (es : List ℕ) → Covers demands es → ⊥
AreCheapest demands (Some depths) = IsCheapest demands depths

-- ---- limits of the demands

-- the need is of one of `channels` channels, and its depth is within the limit
pub record IsNeed (channels : ℕ) (need : Need) : Type 0 where
  pub channel : need.channel < channels
  pub most : need.depth ≤ FIFO_DEPTH

-- the widths are at most 64 bits, the floors within the limits of the language, and the cuts' needs within their limits
pub record AreDemands (demands : Demands) : Type 0 where
  pub count : length demands.widths ≡ length demands.floors
  pub few : length demands.floors ≤ CHANNELS
  pub narrow : All (λ w. w ≤ 64) demands.widths
  pub most : (f : ℕ) → slice_index demands.floors f ≤ FIFO_DEPTH
  pub needs : All (λ cut. All (IsNeed (length demands.floors)) cut.needs) demands.cuts
