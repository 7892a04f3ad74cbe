-- What rounds of Assigns and Answers make of a core.
use Rattle.std.specs.Prelude.{◌≡◌, ℕ, ◌+◌, ◌<◌, ◌≤◌, ◌⊎◌, true, false, length, slice_index_or}
use Rattle.flow_design.specs.{FitsEngine}
use Rattle.event_timing.specs.{MayRun, IsDetermined, IsAgreed, AllVerified, work}
use Rattle.timing_bridge.specs.{design, lockstep_run, may_time, timings}
use Rattle.sim_core.specs.{Views.CoreView, Views.theory_of, Drives.Goes, Drives.GoesOn}

-- no Assign and no Answer of module m is permitted
abbrev pub IsUntimable : CoreView → ℕ → Type 0
IsUntimable v m = may_time (design v.plan) v.plan.cycles (theory_of v) m ≡ false

-- some Assigns and Answers of module m, so many, lead from v to w, and are those of rounds that stand at module m
pub record TimesSome (v : CoreView) (before m count : ℕ) (w : CoreView) (after : ℕ) : Type 0 where
  pub goes : GoesOn v before w after
  pub rounds : (more : ℕ) → timings (design v.plan) v.plan.cycles (count + more) m (theory_of v)
      ≡ timings (design v.plan) v.plan.cycles more m (theory_of w)
  pub few : count + work (design v.plan) (theory_of v) ≤ work (design v.plan) (theory_of w)

-- of none of the modules from this one on, below another, an Assign or an Answer is permitted
abbrev pub AreUntimable : CoreView → ℕ → ℕ → Type 0
AreUntimable v from to = (n : ℕ) → from ≤ n → n < to → IsUntimable v n

-- module m comes next, from module `at` on, and then from the first one on
abbrev pub IsNextFrom : CoreView → ℕ → ℕ → Type 0
IsNextFrom v at m = (m < length v.plan.design.modules) × (((at ≤ m) × AreUntimable v at m)
    ⊎ (AreUntimable v at (length v.plan.design.modules) × AreUntimable v 0 m))

-- what the rounds keep: `done` actions led from `first` to `now`, and the next module is sought from module `at` on
pub record IsTimingRound (first now : CoreView) (before ticks : ℕ) (at done : ℕ) : Type 0 where
  pub goes : Goes first before now ticks
  pub agreed : IsAgreed (design first.plan) (lockstep_run first.plan) first.plan.cycles (theory_of first)
  pub fits : FitsEngine first.plan
  pub verified : AllVerified (theory_of first)
  pub at_most : at ≤ length now.plan.design.modules
  -- the actions that are left, from this module on, are the rest of all actions
  pub rounds : (more : ℕ) → timings (design first.plan) first.plan.cycles (done + more) 0 (theory_of first)
      ≡ timings (design first.plan) first.plan.cycles more at (theory_of now)
  pub few : done + work (design first.plan) (theory_of first) ≤ work (design first.plan) (theory_of now)

-- ---- Runs

-- of none of the modules from this one on, below another, a Run is permitted
abbrev pub AreUnrunnable : CoreView → ℕ → ℕ → Type 0
AreUnrunnable v from to = (n : ℕ) → from ≤ n → n < to → MayRun (design v.plan) (theory_of v) n → ⊥

-- a Run of module m is permitted, and its run is not lent
abbrev pub IsReady : CoreView → ℕ → Type 0
IsReady v m = MayRun (design v.plan) (theory_of v) m × (slice_index_or v.lent m true ≡ false)

-- ---- the end

-- a Run of module m is permitted, or its first step without a cycle is determined, below the limit
abbrev pub HasMore : CoreView → ℕ → Type 0
HasMore v m = MayRun (design v.plan) (theory_of v) m ⊎ ((c : ℕ) × IsDetermined (design v.plan) v.plan.cycles (theory_of v) m c)
