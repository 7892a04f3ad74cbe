-- What is lent of a core: a module's run with its mail.
use Rattle.std.specs.Prelude.{◌≡◌, ℕ, ◌-◌, ◌<◌, ◌≤◌, Bool, cond, ltb, List, [], ◌∷◌, length, drop}
use Rattle.flow_design.specs.{Plan, ModuleState, Request}
use Rattle.flow_word.specs.{is_blocking, declared.access.Side.TheVariants.Pop}
use Rattle.lockstep_defs.specs.{requests_of, Own}
use Rattle.module_interp.specs.{ModuleRun, waits}
use Rattle.event_timing.specs.{Begins, core_tally, core_values, MayRun, Core.Core}
use Rattle.timing_bridge.specs.{design}
use Rattle.engine_view.specs.{outcome_by}
use Rattle.sim_core.specs.{Runs.IsRunOf, Runs.rest_after, Views.CoreView, Views.theory_of}
use Rattle.run_ahead.specs.{values_on, IsBurst, Mail, Task, Burst}

-- the outcomes of the queries among the requests, by whether each request is possible
abbrev pub requested_outcomes : List Request → List Bool → List Bool
requested_outcomes [] flags = []
requested_outcomes (r ∷ rs) [] = []
requested_outcomes (r ∷ rs) (b ∷ bs) = cond (is_blocking r.kind) (requested_outcomes rs bs) (outcome_by r.kind b ∷ requested_outcomes rs bs)

-- the outcomes of module m's step k; none where there is no such step
abbrev pub outcomes_at : Plan → Core ModuleState → ℕ → ℕ → List Bool
outcomes_at p x m k = cond (ltb k (x.emitted m)) (requested_outcomes (requests_of p (m, x.state m k)) (x.flags m k)) []

-- the values that module m's next pops of channel c give, after its first n steps
abbrev pub values_to_come : Plan → Core ModuleState → ℕ → ℕ → ℕ → List ℕ
values_to_come p x m n c = drop (core_tally (design p) x m Pop c n) (core_values (design p) x c)

-- to how many of module m's steps its run has committed the replies
abbrev pub steps_committed : Core ModuleState → ℕ → ModuleRun → ℕ
steps_committed x m run = cond (waits run) (x.emitted m - 1) (x.emitted m)

-- the mail has only what the core has: the outcomes of the step that waits, and for each channel some of its next values
pub record IsMailFor (p : Plan) (x : Core ModuleState) (m n : ℕ) (mail : Mail) : Type 0 where
  pub outcomes : mail.outcomes ≡ outcomes_at p x m n
  pub values : (c : ℕ) → Begins (values_to_come p x m n c) (values_on mail c)

-- the task is one for the core: a Run of module m is permitted, the run is the module's, and the mail has only what the core has
pub record IsTaskFor (p : Plan) (x : Core ModuleState) (m : ℕ) (task : Task) : Type 0 where
  pub may : MayRun (design p) x m
  pub run : IsRunOf p x m task.run
  pub mail : IsMailFor p x m (steps_committed x m task.run) task.mail

-- the task is one for the core, and the mail has all that the core has: all values of the channels that the module pops
pub record IsTaskOf (p : Plan) (x : Core ModuleState) (m : ℕ) (task : Task) : Type 0 where
  pub may : MayRun (design p) x m
  pub run : IsRunOf p x m task.run
  pub outcomes : task.mail.outcomes ≡ outcomes_at p x m (steps_committed x m task.run)
  pub popped : (c : ℕ) → c < length p.design.channels → (design p).owner Pop c ≡ m
      → values_on task.mail c ≡ values_to_come p x m (steps_committed x m task.run) c
  pub others : (c : ℕ) → ((design p).owner Pop c ≡ m → ⊥) → values_on task.mail c ≡ []
  pub outside : (c : ℕ) → length p.design.channels ≤ c → values_on task.mail c ≡ []

-- a run with what is left of its mail: it is module m's, and for each channel the values are some of its next values
pub record IsTaskLeft (p : Plan) (x : Core ModuleState) (m : ℕ) (task : Task) : Type 0 where
  pub run : IsRunOf p x m task.run
  pub values : (c : ℕ) → Begins (values_to_come p x m (steps_committed x m task.run) c) (values_on task.mail c)

-- the rest at which the run of a task stands
abbrev pub rest_of : Plan → Core ModuleState → ℕ → Task → Own
rest_of p x m task = rest_after p x m (steps_committed x m task.run)

-- the burst is one of a task for this core
abbrev pub IsBurstOf : CoreView → ℕ → Burst → Type 0
IsBurstOf v m burst = (task : Task) × (IsTaskFor v.plan (theory_of v) m task
    × IsBurst v.plan m (rest_of v.plan (theory_of v) m task) task burst)
