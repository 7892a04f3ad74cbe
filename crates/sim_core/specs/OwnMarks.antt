-- The steps that a core has emitted of a module, compared with the marks of the module's own run.
use Rattle.std.specs.Prelude.{◌≡◌, ℕ, suc, ◌<◌, true, false, List, [], ◌∷◌, ◌++◌, map, take, slice_index_or}
use Rattle.flow_design.specs.{Plan, Advance, Reply, declared.state.Advance.TheVariants.Step}
use Rattle.lockstep_defs.specs.{marks}
use Rattle.module_interp.specs.{is_step}
use Rattle.event_graph.specs.{lane_at}
use Rattle.timing_bridge.specs.{core_replies}
use Rattle.engine_view.specs.{emitted_of}
use Rattle.sim_core.specs.Views.{CoreView, theory_of}

-- the steps that are held of module i, as marks
abbrev pub held_marks : CoreView → ℕ → List Advance
held_marks v i = map (λ s. Step s) (lane_at v.held.lanes i).steps

-- the core's replies to module i's first k steps
abbrev pub held_replies : CoreView → ℕ → ℕ → List (List Reply)
held_replies v i k = core_replies v.plan (theory_of v) i k

-- module i's own run on these replies has exactly these marks, from some local clock on
abbrev pub HasMarks : Plan → ℕ → List (List Reply) → List Advance → Type 0
HasMarks p i replies told = (clock : ℕ) × ((n : ℕ) → clock < n → marks p i replies n ≡ told)

-- what a core holds of module i tells the module's own run on the core's replies
pub record TellsOwnRun (v : CoreView) (i : ℕ) : Type 0 where
  -- on the replies to the first k steps, the marks of the own run are the first k + 1 steps that are held
  pub steps : (k : ℕ) → k < emitted_of v.held i → HasMarks v.plan i (held_replies v i k) (take (suc k) (held_marks v i))
  -- where the module's end was emitted, the own run on all replies has one more mark after all steps, which is no step
  pub ended : slice_index_or v.held.over i false ≡ true → (mark : Advance) × (is_step mark ≡ false)
      × HasMarks v.plan i (held_replies v i (emitted_of v.held i)) (held_marks v i ++ mark ∷ [])
