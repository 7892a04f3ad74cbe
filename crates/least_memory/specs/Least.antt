-- The depths that take the fewest bits of memory, of all with which a plan loses no more than some clocks.
use Rattle.std.specs.Prelude.{◌≡◌, ℕ, ◌+◌, Bool, Option, List, unwrap_or}
use Rattle.flow_design.specs.{declared.limits.TheConstants.FIFO_DEPTH, Plan, Verdict}
use Rattle.flow_design.specs.declared.report.Verdict.TheVariants.{Done, Deadlock, Cycles, Ops}
use Rattle.lockstep_defs.specs.{verdict}
use Rattle.depth_order.specs.{with_depths, AreDepths, IsDoneBy}
use Rattle.depth_advice.specs.{advised}
use Rattle.least_depths.specs.{is_done_by}
use Rattle.depth_cuts.specs.{IsNoWorse}
use Rattle.least_memory.specs.{Choices.choices, Choices.memory_bits, Choices.least_of, Choices.widths_of, declared.finding.Leasts.Leasts}

-- with these depths the plan is done in this clock or earlier
abbrev pub is_timely : Plan → ℕ → List ℕ → Bool
is_timely p clock depths = is_done_by clock (verdict (with_depths p depths))

-- of all choices with which the plan is done by the clock, the first that takes the fewest bits
abbrev pub least_by : Plan → ℕ → Option (List ℕ)
least_by p clock = least_of (is_timely p clock) (memory_bits p.design.channels) (choices FIFO_DEPTH p.design.channels)

-- the least depths with an end at most `slack` clocks after that of the advised depths; the advised ones where these lead to no end
abbrev pub least_after : ℕ → Plan → Verdict → List ℕ
least_after slack p (Done clock) = unwrap_or (least_by p (clock + slack)) (advised p)
least_after slack p (Deadlock clock) = advised p
least_after slack p (Cycles clock) = advised p
least_after slack p (Ops clock) = advised p

abbrev pub leasts_of : Plan → List ℕ → Leasts
leasts_of p depths = record { verdict = verdict (with_depths p depths); depths = depths }

unfoldable pub leasts : ℕ → Plan → Leasts
leasts slack p = leasts_of p (least_after slack p (verdict (with_depths p (advised p))))

-- ---- what the least depths guarantee

-- if the first verdict is an end, of all depths done at most `slack` clocks after it these take the fewest bits, or as many and
-- come first
abbrev pub IsLeastMemory : Plan → ℕ → Verdict → List ℕ → Type 0
IsLeastMemory p slack first depths = (clock : ℕ) → first ≡ Done clock → (es : List ℕ) → AreDepths p es
    → IsDoneBy (clock + slack) (verdict (with_depths p es)) → IsNoWorse (widths_of p.design.channels) depths es
