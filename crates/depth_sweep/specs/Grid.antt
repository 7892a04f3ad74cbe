-- The grid of depths of a plan, and the points on it.
use Rattle.std.specs.Prelude.{ℕ, zero, suc, ◌-◌, List, [], ◌∷◌, length, map, flat_map}
use Rattle.std.specs.List.{range_with_len, zip}
use Rattle.flow_design.specs.{Plan, Edit}
use Rattle.lockstep_defs.specs.{report}
use Rattle.outcome_guard.specs.{plan_after}
use Rattle.timelines.specs.{fifos}
use Rattle.depth_sweep.specs.declared.point.Point.{Point}

-- ---- depths

-- how many depths there are from lo to hi, both included
abbrev pub width : ℕ → ℕ → ℕ
width lo hi = suc hi - lo

-- the depths from lo to hi, in order
abbrev pub depths_between : ℕ → ℕ → List ℕ
depths_between lo hi = range_with_len lo (width lo hi)

-- all lists of n depths from lo to hi, in lexicographic order
unfoldable pub grid : ℕ → ℕ → ℕ → List (List ℕ)
grid lo hi zero = [] ∷ []
grid lo hi (suc n) = flat_map (λ first. map (λ others. first ∷ others) (grid lo hi n)) (depths_between lo hi)

-- ---- a plan with other depths

-- the edits that give these channels these depths, in order
abbrev pub depth_edits : List ℕ → List ℕ → List Edit
depth_edits channels depths = map (λ e. record { channel = e.0; depth = e.1 }) (zip channels depths)

-- the plan with these depths on its FIFOs
unfoldable pub with_fifo_depths : Plan → List ℕ → Plan
with_fifo_depths p depths = plan_after p (depth_edits (fifos p) depths)

-- ---- points

-- the point of these depths, with the verdict of the plan that has them
unfoldable pub point : Plan → List ℕ → Point
point p depths = record { depths = depths; verdict = (report (with_fifo_depths p depths)).verdict }

-- the most points that a sweep simulates
abbrev pub most_points : ℕ
most_points = 4_096

-- the lists of depths that a sweep of the plan goes through
abbrev pub grid_of : Plan → ℕ → ℕ → List (List ℕ)
grid_of p lo hi = grid lo hi (length (fifos p))
