-- The smallest FIFOs that lose no more than some clocks.
use Rattle.std.specs.Prelude.{◌≡◌, ⊤, ℕ, ◌+◌, ◌^◌, List, length}
use Rattle.flow_design.specs.{Plan, Verdict}
use Rattle.flow_design.specs.declared.report.Verdict.TheVariants.{Done, Deadlock, Cycles, Ops}
use Rattle.lockstep_defs.specs.{verdict}
use Rattle.depth_order.specs.{with_depths, IsDoneBy}
use Rattle.depth_advice.specs.{advised}
use Rattle.least_depths.specs.{Lowering.Lowered, Lowering.untouched, Lowering.lowered, Lowering.AreLeast, declared.sizing.Sizes.Sizes}

-- the sizes that a lowered plan gives: its verdict, its depths, and how many depths were tried
abbrev pub sizes_of : Lowered → Sizes
sizes_of x = record { verdict = verdict x.plan; depths = x.plan.depths; tries = x.tries }

-- the sizes from a plan with this verdict: where it is done, each FIFO is lowered with an end at most `slack` clocks later
abbrev pub sized_by : ℕ → Plan → Verdict → Sizes
sized_by slack p (Done clock) = sizes_of (lowered p (clock + slack) (length p.design.channels))
sized_by slack p (Deadlock clock) = sizes_of (untouched p)
sized_by slack p (Cycles clock) = sizes_of (untouched p)
sized_by slack p (Ops clock) = sizes_of (untouched p)

abbrev pub least_sizes : ℕ → Plan → Sizes
least_sizes slack p = sized_by slack p (verdict p)

-- the sizes of a plan, lowered from its advised depths
unfoldable pub sizes : ℕ → Plan → Sizes
sizes slack p = least_sizes slack (with_depths p (advised p))

-- the greatest slack, in clocks
abbrev pub most_slack : ℕ
most_slack = 10 ^ 15

-- how many plans the search simulates from the beginning, where no operation is a query: one for the advice, and one more where
-- that plan is done
abbrev pub first_runs : Verdict → ℕ
first_runs (Done clock) = 2
first_runs (Deadlock clock) = 1
first_runs (Cycles clock) = 1
first_runs (Ops clock) = 1

-- ---- what the sizes guarantee

-- if the first verdict is an end, the other is an end at most `slack` clocks later
abbrev pub IsNoLater : ℕ → Verdict → Verdict → Type 0
IsNoLater slack (Done clock) found = IsDoneBy (clock + slack) found
IsNoLater slack (Deadlock clock) found = ⊤
IsNoLater slack (Cycles clock) found = ⊤
IsNoLater slack (Ops clock) found = ⊤

-- if the first verdict is an end, no lower depths are done at most `slack` clocks after it
abbrev pub IsLeast : Plan → ℕ → Verdict → List ℕ → Type 0
IsLeast p slack first depths = (clock : ℕ) → first ≡ Done clock → AreLeast p (clock + slack) depths
