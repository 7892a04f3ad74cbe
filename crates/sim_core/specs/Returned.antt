-- Marks with which a run comes back to a core.
use Rattle.std.specs.Prelude.{◌≡◌, ℕ, ◌+◌, ◌*◌, ◌<◌, ◌≤◌, ◌⊎◌, Bool, true, false, List, [], ◌∷◌, Option, length, slice_index}
use Rattle.std.specs.Prelude.{slice_index_or, Result, OnOk, OnErr}
use Rattle.flow_word.specs.{Side}
use Rattle.flow_design.specs.{Plan, Advance, ModuleState, declared.state.Advance.TheVariants.Step}
use Rattle.event_graph.specs.{whole, IsFewStep}
use Rattle.lockstep_defs.specs.{module_at}
use Rattle.module_interp.specs.{ModuleRun, mark_at, waits, IsSoundMark}
use Rattle.event_timing.specs.{Core.Core, Acts, ActsAll, MayRun, Actions.Action.Run}
use Rattle.timing_bridge.specs.{design}
use Rattle.engine_view.specs.{core_of, room_of, Engine, held_in, over_of}
use Rattle.run_ahead.specs.{Task, IsBurst, burst_of}
use Rattle.sim_core.specs.Runs.{HasBodiesWithin, IsRunOf, IsCore, ForSomeCore, ForEachCore, lent_of, rest_after}
use Rattle.sim_core.specs.{Tasks.IsTaskFor, Tasks.IsTaskLeft, Tasks.rest_of, Taken.taken_by_marks, declared.back.NextMark.NextMark}
use Rattle.sim_core.specs.declared.back.NextMark.TheVariants.{Few, Whole}
use Rattle.event_timing.specs.Actions as actions

-- the theory's core of what is stored
abbrev pub core_in : Plan → Engine → Core ModuleState
core_in p s = core_of (design p) (held_in s)

-- there is a place for each of these marks in module m's lane; and at each of the module's ports for all that they take there, and for
-- what its newest step may still take
pub record HasPlaceForEach (p : Plan) (s : Engine) (m : ℕ) (marks : List Advance) : Type 0 where
  pub steps : length marks ≤ slice_index s.graph.rooms m
  pub ports : (side : Side) (c : ℕ) → c < length p.design.channels → (design p).owner side c ≡ m
      → taken_by_marks side c marks + 1 ≤ room_of s.fifos side c

-- module m's credit suffices for these marks, whatever they take; or there is room for what they take
abbrev pub HasPlacesForMarks : Plan → Engine → ℕ → List Advance → Type 0
HasPlacesForMarks p s m marks = (2 * length marks ≤ slice_index s.credits.items m) ⊎ HasPlaceForEach p s m marks

-- module m's run is out of the core, and there is room for these marks of the module
pub record HasRoomForMarks (p : Plan) (s : Engine) (runs : List (Option ModuleRun))
    (m : ℕ) (marks : List Advance) : Type 0 where
  pub core : IsCore p s runs
  pub lent : slice_index_or (lent_of runs) m true ≡ true
  pub places : HasPlacesForMarks p s m marks
  -- a step has at most as many queries as its body has operations
  pub outcomes : HasBodiesWithin (module_at p m) (slice_index s.log.rooms m)

-- module m's run is out of the core, and the module's credit suffices for one mark more
pub record HasRoomForOne (p : Plan) (s : Engine) (runs : List (Option ModuleRun)) (m : ℕ) : Type 0 where
  pub core : IsCore p s runs
  pub lent : slice_index_or (lent_of runs) m true ≡ true
  pub places : 2 ≤ slice_index s.credits.items m
  pub outcomes : HasBodiesWithin (module_at p m) (slice_index s.log.rooms m)

-- the mark that is to be emitted
abbrev pub next_mark : NextMark → Advance
next_mark (Few view) = Step (whole view)
next_mark (Whole mark) = mark

-- a mark that is told as a step of few accesses is one
abbrev pub IsFewMark : NextMark → Type 0
IsFewMark (Few view) = IsFewStep (whole view)
IsFewMark (Whole mark) = Unit {0}

-- the mark is module m's next one, a Run of the module is permitted, and there is room for it
pub record IsNextMark (p : Plan) (s : Engine) (runs : List (Option ModuleRun)) (m : ℕ)
    (mark : Advance) : Type 0 where
  pub room : HasRoomForMarks p s runs m (mark ∷ [])
  pub may : MayRun (design p) (core_in p s) m
  pub is : mark ≡ mark_at p m (rest_after p (core_in p s) m ((core_in p s).emitted m))
  pub sound : IsSoundMark (length (rest_after p (core_in p s) m ((core_in p s).emitted m)).steps) mark

-- a Run of module m leads from what s holds to what t holds, which is a core too
pub record HasDoneRun (p : Plan) (s t : Engine) (runs : List (Option ModuleRun)) (m : ℕ) : Type 0 where
  pub core : IsCore p t runs
  pub acts : Acts (design p) p.cycles (core_in p s) (Run m) (core_in p t)

-- module m's run is out of the core and waits for nothing, and there is room for its next mark
pub record CanGoOn (p : Plan) (s : Engine) (runs : List (Option ModuleRun)) (m : ℕ) (run : ModuleRun)
    : Type 0 where
  pub room : HasRoomForOne p s runs m
  pub inside : m < length p.design.modules
  pub run_is : IsRunOf p (core_in p s) m run
  pub answered : waits run ≡ false
  pub lives : slice_index_or (over_of s.ends.items) m false ≡ false

-- in some core module m's run is out and waits for nothing, and there is room for its next mark
abbrev pub CanEmitNext : Engine → ℕ → ModuleRun → Type 0
CanEmitNext s m run = ForSomeCore (λ p runs. CanGoOn p s runs m run)

-- module m's run has gone on to its next mark, and the mark was emitted; or memory ran out, and the run stands where it stood
pub record HasEmittedNext {T E : Type 0} (s t : Engine) (m : ℕ) (old new : ModuleRun) (result : Result T E) : Type 0 where
  pub emits : ForEachCore (λ p runs. CanGoOn p s runs m old) (λ p runs. OnOk result (HasDoneRun p s t runs m))
  pub run : ForEachCore (λ p runs. CanGoOn p s runs m old) (λ p runs. IsRunOf p (core_in p t) m new)
  pub unchanged : OnErr result (t ≡ s)

-- the marks are those of a burst on a task for the core; it leaves this run and mail, and there is room for the marks
pub record AreReturned (p : Plan) (s : Engine) (runs : List (Option ModuleRun)) (m : ℕ)
    (marks : List Advance) (last : Task) : Type 0 where
  pub room : HasRoomForMarks p s runs m marks
  pub task : Task
  pub short : Bool
  pub is_task : IsTaskFor p (core_in p s) m task
  pub is_burst : IsBurst p m (rest_of p (core_in p s) m task) task (burst_of last marks short)

-- so many Runs of module m lead from what s holds to what t holds, which is a core too; this run and mail are left of them
pub record HasReturned (p : Plan) (s t : Engine) (runs : List (Option ModuleRun)) (m count : ℕ) (last : Task) : Type 0 where
  pub core : IsCore p t runs
  pub left : IsTaskLeft p (core_in p t) m last
  pub acts : ActsAll (design p) p.cycles (core_in p s) (actions.runs count m) (core_in p t)
