-- A run as callers see it: it stands at a rest of the module's own run, and waits for replies or not.
use Rattle.std.specs.Prelude.{ℕ, ◌≡◌, ◌*◌, ◌^◌, ◌<◌, ◌≤◌, Bool, true, false, List, length, All}
use Rattle.flow_word.specs.{Access, Step as StepOf}
use Rattle.flow_design.specs.{declared.limits.TheConstants.LIVE_ITERATIONS, declared.limits.TheConstants.OPERATIONS, Plan, Advance}
use Rattle.flow_design.specs.declared.state.Advance.TheVariants.{Step, Ended, Spent}
use Rattle.lockstep_defs.specs.{module_at, Own}
use Rattle.module_interp.specs.{declared.path.Stage.Stage, declared.run.ModuleRun.ModuleRun, Counts.count_at, OwnRests.clocks_to_rest}
use Rattle.module_interp.specs.{OwnRests.done_in, OwnRests.accesses_at, Paths.IsInTime, Paths.LeadsTo, Paths.IsTallyOf, Paths.KnowsPorts}
use Rattle.module_interp.specs.declared.path.Stage.TheVariants.{Begun, Asked, Ticked}

abbrev pub is_asked : Stage → Bool
is_asked Begun = false
is_asked Asked = true
is_asked Ticked = false

-- the run waits: the step at which it rests was given, and its replies are not there yet
abbrev pub waits : ModuleRun → Bool
waits r = is_asked r.path.value.stage

-- the mark is a step
abbrev pub is_step : Advance → Bool
is_step (Step s) = true
is_step (Ended g) = false
is_step (Spent g) = false

-- the step with the accesses that the path has: once they are listed, those of the step at which it rests
abbrev pub listed_step : ModuleRun → StepOf
listed_step r = record { gap = r.path.value.since; accesses = r.path.value.asked; first_query = r.tally.queries }

-- the numbers of an access are in range
pub record IsSmallAccess (a : Access) : Type 0 where
  pub channel : a.channel < 2 ^ 27
  pub ordinal : a.ordinal < 2 ^ 32

-- the most accesses of a step that is told in place
abbrev pub few_accesses : ℕ
few_accesses = 8

-- the step has one access to eight, and its numbers fit 32 bits
pub record IsFew (s : StepOf) : Type 0 where
  pub some : 1 ≤ length s.accesses
  pub most : length s.accesses ≤ few_accesses
  pub gap : s.gap < 2 ^ 32
  pub first_query : s.first_query < 2 ^ 32
  pub small : All IsSmallAccess s.accesses

-- the gap of a mark: how many local clocks it is after the mark before it
abbrev pub gap_of : Advance → ℕ
gap_of (Step s) = s.gap
gap_of (Ended gap) = gap
gap_of (Spent gap) = gap

-- the numbers of a step are in range
pub record IsSmallStep (s : StepOf) : Type 0 where
  pub few : length s.accesses ≤ LIVE_ITERATIONS * OPERATIONS
  pub first_query : s.first_query < 2 ^ 40

abbrev pub IsSmall : Advance → Type 0
IsSmall (Step s) = IsSmallStep s
IsSmall (Ended gap) = Unit {0}
IsSmall (Spent gap) = Unit {0}

-- a mark after `steps` steps has numbers in range, and a gap that is short, and at least 1 where there was a step
pub record IsSoundMark (steps : ℕ) (mark : Advance) : Type 0 where
  pub small : IsSmall mark
  pub short : gap_of mark < 10 ^ 18
  pub after : 0 < steps → 1 ≤ gap_of mark

-- the channels that the module of a run pops
abbrev pub inlets_of : ModuleRun → List ℕ
inlets_of run = run.tally.popped.channels

-- how many elements of a channel the run has popped, in the steps that have their replies
abbrev pub popped_in : ModuleRun → ℕ → ℕ
popped_in run f = count_at run.tally.popped f

-- the run stands at this rest of module i's own run
pub record StandsAt (p : Plan) (i : ℕ) (o : Own) (r : ModuleRun) : Type 0 where
  pub leads : LeadsTo p i o r.path.value
  pub tally : IsTallyOf (done_in o.steps) r.tally
  pub ports : KnowsPorts (module_at p i) r.tally
  pub few : length (done_in o.steps) ≤ o.state.count
  pub accesses : r.path.value.stage ≡ Asked → r.path.value.asked ≡ accesses_at p i o
  pub in_time : IsInTime p (module_at p i) o.state (clocks_to_rest o)
  pub after : 0 < length o.steps → 1 ≤ o.since
