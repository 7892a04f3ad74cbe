-- Depths that never block: for each FIFO, the most elements that it holds where there is always room, plus one.
use Rattle.std.specs.Prelude.{◌≡◌, ◌≢◌, ℕ, ◌+◌, ◌<◌, ◌≤◌, true, if◌then◌else◌, List, map, length, slice_index}
use Rattle.std.specs.List.{range_with_len}
use Rattle.flow_design.specs.{declared.limits.TheConstants.FIFO_DEPTH, Plan, is_fifo, kind_at, declared.report.Verdict.TheVariants.Done}
use Rattle.lockstep_defs.specs.{verdict}
use Rattle.depth_order.specs.{with_depths, AreDepths, IsNoSlower}
use Rattle.timelines.specs.{fill, last_clock}
use Rattle.port_clocks.specs.{peak}

-- ---- depths

-- one entry per channel: the depth of a FIFO, or 0 for a channel of another kind
abbrev pub depths_by : Plan → (ℕ → ℕ) → List ℕ
depths_by p depth = map (λ f. if is_fifo (kind_at p f) then depth f else 0) (range_with_len 0 (length p.design.channels))

-- ---- advice

-- the plan with each FIFO as deep as the language allows
abbrev pub wide : Plan → Plan
wide p = with_depths p (depths_by p (λ f. FIFO_DEPTH))

-- the advised depths: for each FIFO, one more than the most elements that it holds where it never blocks
abbrev pub advised : Plan → List ℕ
advised p = depths_by p (λ f. peak (wide p) f + 1)

-- up to the verdict's clock each FIFO holds fewer elements than its entry
abbrev pub HoldsLess : Plan → List ℕ → Type 0
HoldsLess p depths = (f clock : ℕ) → is_fifo (kind_at p f) ≡ true → clock ≤ last_clock p → fill p f clock < slice_index depths f

-- ---- no depths are faster

-- if any depths lead to an end, these lead to an end no later
abbrev pub AreFastest : Plan → List ℕ → Type 0
AreFastest p depths = (others : List ℕ) → AreDepths p others → IsNoSlower p others depths

-- there are no depths with which the plan ends
abbrev pub IsNeverDone : Plan → Type 0
IsNeverDone p = (depths : List ℕ) → AreDepths p depths → (clock : ℕ) → verdict (with_depths p depths) ≢ Done clock
