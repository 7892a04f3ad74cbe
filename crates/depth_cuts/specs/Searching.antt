-- What the search for the cheapest depths has found.
use Rattle.std.specs.Prelude.{◌≡◌, ⊤, ℕ, ◌<◌, ◌≤◌, ◌==◌, if◌then◌else◌, Option, None, Some, List, slice_index, slice_index_or, All}
use Rattle.flow_design.specs.declared.limits.TheConstants.{FIFO_DEPTH}
use Rattle.depth_cuts.specs.{declared.cuts.Need.Need, declared.cuts.Demands.Demands, declared.order.Choice.Choice, Met.IsMet}
use Rattle.depth_cuts.specs.{Met.MeetsBetween, Cuts.AreAbove, Cuts.Covers, Cuts.bits_of, Cuts.IsNoWorse}

-- the choice has its right bits, is within the limits, is at least the floors, and meets the cuts before a place
pub record IsAt (demands : Demands) (from : ℕ) (at : Choice) : Type 0 where
  pub above : AreAbove demands.floors at.depths
  pub most : (f : ℕ) → slice_index at.depths f ≤ FIFO_DEPTH
  pub bits : at.bits ≡ bits_of demands.widths at.depths
  pub met : MeetsBetween demands.cuts 0 from at.depths

-- the choice has its right bits, and its depths meet the demands
pub record IsFound (demands : Demands) (found : Choice) : Type 0 where
  pub covers : Covers demands found.depths
  pub bits : found.bits ≡ bits_of demands.widths found.depths

abbrev pub IsBestSoFar : Demands → Option Choice → Type 0
IsBestSoFar demands None = ⊤
IsBestSoFar demands (Some found) = IsFound demands found

-- a choice has been found that is no worse than these depths
abbrev pub Beats : List ℕ → Option Choice → List ℕ → Type 0
Beats widths None es = ⊥
Beats widths (Some found) es = IsNoWorse widths found.depths es

-- the new choice is no worse than any depths that the old one was no worse than
abbrev pub Improves : List ℕ → Option Choice → Option Choice → Type 0
Improves widths old new = (es : List ℕ) → Beats widths old es → Beats widths new es

-- what is found is no worse than any depths that meet all cuts and are no less than these
abbrev pub IsSearched : Demands → List ℕ → Option Choice → Type 0
IsSearched demands depths best =
    (es : List ℕ) → AreAbove depths es → All (λ cut. IsMet cut es) demands.cuts → Beats demands.widths best es

-- what is found is no worse than any depths that meet all cuts and this need and are no less than these
abbrev pub IsNeedTried : Demands → List ℕ → Option Choice → Need → Type 0
IsNeedTried demands depths best need =
    (es : List ℕ) → AreAbove depths es → All (λ cut. IsMet cut es) demands.cuts → need.depth ≤ slice_index es need.channel
    → Beats demands.widths best es

-- ---- the order in which needs are tried

-- the number after 0 and `first` have changed places
abbrev pub swapped : ℕ → ℕ → ℕ
swapped first n = if n == 0 then first else (if n == first then 0 else n)

abbrev pub need_at : List Need → ℕ → Need
need_at needs k = slice_index_or needs k (record { channel = 0; depth = 0 })

-- the needs of the first n tries have been tried
abbrev pub AreTried : Demands → List ℕ → Option Choice → List Need → ℕ → ℕ → Type 0
AreTried demands depths best needs first n = (k : ℕ) → k < n → IsNeedTried demands depths best (need_at needs (swapped first k))
