-- What the actions at a module, and those over all modules, make of a core.
use Rattle.std.specs.Prelude.{◌≡◌, ℕ, ◌<◌, Option, None, Some}
use Rattle.query_log.specs.{Query}
use Rattle.outcome_guard.specs.{Guard}
use Rattle.event_timing.specs.{Acts, MayRun, MayAssign, MayEarliest, IsFinal}
use Rattle.event_timing.specs.Actions.Action.{Assign, Answer, Earliest}
use Rattle.engine_view.specs.{Timing, IsDifferent, IsFoundOther, IsIdle}
use Rattle.engine_view.specs.declared.turn.Timing.TheVariants.{Assigned, Answered, Differs, Nothing}
use Rattle.timing_bridge.specs.{design}
use Rattle.sim_core.specs.Views.{CoreView, theory_of}
use Rattle.outcome_guard.specs.declared.guard.Guard.TheVariants as guard

-- a turn at module m leads from v to w: an Assign; or an Answer, after which an Assign is permitted; or nothing changed, since an
-- outcome differs or neither is permitted
abbrev pub HasTurned : Timing → CoreView → ℕ → CoreView → Type 0
HasTurned (Assigned c) v m w = Acts (design v.plan) v.plan.cycles (theory_of v) (Assign m) (theory_of w)
HasTurned (Answered c) v m w = Acts (design v.plan) v.plan.cycles (theory_of v) (Answer m) (theory_of w) × (theory_of w ≡ theory_of v → ⊥)
    × MayAssign (design v.plan) v.plan.cycles (theory_of w) m c
HasTurned (Differs q) v m w = (w ≡ v) × IsDifferent (design v.plan) v.plan.cycles v.held m q
HasTurned Nothing v m w = (w ≡ v) × IsIdle (design v.plan) v.plan.cycles (theory_of v) m

-- no Run, Assign or Answer of module m is permitted
pub record IsStill (v : CoreView) (m : ℕ) : Type 0 where
  pub no_run : MayRun (design v.plan) (theory_of v) m → ⊥
  pub idle : IsIdle (design v.plan) v.plan.cycles (theory_of v) m

-- an Earliest of module m is permitted, and finds query q with another outcome
pub record IsEarliestOther (v : CoreView) (m : ℕ) (q : Query) : Type 0 where
  pub cycle : ℕ
  pub may : MayEarliest (design v.plan) v.plan.cycles (theory_of v) m cycle
  pub found : IsFoundOther (design v.plan) v.held m cycle q

-- no Earliest is permitted for a module with a lower number than m
abbrev pub IsFirstEarliest : CoreView → ℕ → Type 0
IsFirstEarliest v m = (k : ℕ) → k < m → (c : ℕ) → MayEarliest (design v.plan) v.plan.cycles (theory_of v) k c → ⊥

-- the Earliest of the first module with the least cycle leads from v to w, or finds another outcome; or v is final
abbrev pub HasAnsweredLeast : Option (ℕ × Guard) → CoreView → CoreView → Type 0
HasAnsweredLeast None v w = (w ≡ v) × IsFinal (design v.plan) v.plan.cycles (theory_of v)
HasAnsweredLeast (Some (m, guard.Same)) v w = Acts (design v.plan) v.plan.cycles (theory_of v) (Earliest m) (theory_of w)
    × (theory_of w ≡ theory_of v → ⊥)
HasAnsweredLeast (Some (m, guard.Differs q)) v w = (w ≡ v) × IsEarliestOther v m q
