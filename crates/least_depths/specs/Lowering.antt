-- Lowers the FIFOs of a plan one after the other, each as far as halving finds with no later end.
use Rattle.std.specs.Prelude.{◌≡◌, ℕ, zero, suc, ◌+◌, ◌<◌, ◌≤◌, Bool, true, false, nat_le, if◌then◌else◌, List, length, sum_by, slice_index}
use Rattle.flow_design.specs.{declared.limits.TheConstants.FIFO_DEPTH, Plan, Verdict, is_fifo, kind_at, with_depth}
use Rattle.flow_design.specs.declared.report.Verdict.TheVariants.{Done, Deadlock, Cycles, Ops}
use Rattle.lockstep_defs.specs.{verdict}
use Rattle.depth_order.specs.{with_depths, AreDepths, AreDeeper, IsDoneBy}
use Rattle.least_depths.specs.Halving.{Found, halved, bits}

-- the verdict says that all modules have ended in this clock or earlier
abbrev pub is_done_by : ℕ → Verdict → Bool
is_done_by clock (Done c) = nat_le c clock
is_done_by clock (Deadlock c) = false
is_done_by clock (Cycles c) = false
is_done_by clock (Ops c) = false

-- with this depth for channel f the plan is done in this clock or earlier
abbrev pub is_in_time : Plan → ℕ → ℕ → ℕ → Bool
is_in_time p clock f depth = is_done_by clock (verdict (with_depth p f depth))

-- channel f of the plan is a FIFO, and has a depth that the language allows
pub record HasDepth (p : Plan) (f : ℕ) : Type 0 where
  pub fifo : is_fifo (kind_at p f) ≡ true
  pub entry : f < length p.depths
  pub least : 1 ≤ slice_index p.depths f
  pub most : slice_index p.depths f ≤ FIFO_DEPTH

-- what halving finds for channel f, between 1 and its own depth
abbrev pub least_for : Plan → ℕ → ℕ → Found
least_for p clock f = halved (is_in_time p clock f) (slice_index p.depths f) 1 (slice_index p.depths f)

-- a plan with lowered depths, and how many depths were tried for it
pub record Lowered : Type 0 where
  pub plan : Plan
  pub tries : ℕ

abbrev pub untouched : Plan → Lowered
untouched p = record { plan = p; tries = 0 }

abbrev pub with_found : Lowered → ℕ → Found → Lowered
with_found x f found = record { plan = with_depth x.plan f found.number; tries = x.tries + found.tries }

-- the plan in which the FIFOs among the first n channels are lowered, one after the other
unfoldable pub lowered : Plan → ℕ → ℕ → Lowered
lowered p clock zero = untouched p
lowered p clock (suc n) =
    if is_fifo (kind_at p n) then with_found (lowered p clock n) n (least_for (lowered p clock n).plan clock n) else lowered p clock n

-- there are no lower depths with which the plan is done in this clock or earlier
abbrev pub AreLeast : Plan → ℕ → List ℕ → Type 0
AreLeast p clock depths = (lower : List ℕ) → AreDepths p lower → AreDeeper p lower depths → IsDoneBy clock (verdict (with_depths p lower))
    → lower ≡ depths

-- how many binary digits these depths have in all
abbrev pub all_bits : List ℕ → ℕ
all_bits depths = sum_by bits depths
