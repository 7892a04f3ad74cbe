-- Which cuts depths meet.
use Rattle.std.specs.Prelude.{ℕ, ◌<◌, ◌≤◌, List, [], slice_index, slice_index_or, All, Any}
use Rattle.depth_cuts.specs.declared.cuts.Cut.{Cut}

-- some channel is as deep as one of the cut's needs asks
abbrev pub IsMet : Cut → List ℕ → Type 0
IsMet cut depths = Any (λ n. n.depth ≤ slice_index depths n.channel) cut.needs

-- no channel is as deep as a need of the cut asks
abbrev pub IsUnmet : Cut → List ℕ → Type 0
IsUnmet cut depths = All (λ n. slice_index depths n.channel < n.depth) cut.needs

-- the cut at a place; a cut that is never met where there is none
abbrev pub cut_at : List Cut → ℕ → Cut
cut_at cuts k = slice_index_or cuts k (record { needs = [] })

-- the depths meet the cuts from place `from` to before place `to`
abbrev pub MeetsBetween : List Cut → ℕ → ℕ → List ℕ → Type 0
MeetsBetween cuts from to depths = (k : ℕ) → from ≤ k → k < to → IsMet (cut_at cuts k) depths
