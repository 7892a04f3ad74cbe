-- What an engine holds at the end of a plan's simulation.
use Rattle.std.specs.Prelude.{◌≡◌, ℕ, ◌+◌, ◌<◌, Bool, true, is_some, List, [], map, length, if◌then◌else◌, Option, Some}
use Rattle.flow_design.specs.{Plan, Report, Advance, ModuleState, FitsEngine}
use Rattle.flow_design.specs.declared.state.Advance.TheVariants.{Step, Ended, Spent}
use Rattle.lockstep_defs.specs.{quiet, report}
use Rattle.event_graph.specs.{gap_bound}
use Rattle.event_timing.specs.{ready, own, core_reply, IsFinal, IsAgreed, Core.Core}
use Rattle.timing_bridge.specs.{design, lockstep_run, clocks_of_steps}
use Rattle.engine_view.specs.{Engine, held_in, core_of, IsSound, Held.Held}
use Rattle.engine_report.specs.Standings.{end_at, gap_of_end}
use Rattle.lockstep_defs.specs.Machine as machine

-- ---- end marks

-- the state of module i after its emitted steps, before the quiet clocks that follow
abbrev pub emitted_state : Plan → Core ModuleState → ℕ → ModuleState
emitted_state p x i = own (design p) i (core_reply (design p) x i) (x.emitted i)

-- the local clocks from module i's last step, or from local clock 0, to the end of the quiet clocks that follow
abbrev pub end_gap : Plan → Core ModuleState → ℕ → ℕ
end_gap p x i = clocks_of_steps (x.emitted i) + quiet p i (emitted_state p x i)

-- the mark is the end mark of module i's own run after its emitted steps
abbrev pub IsEndMark : Plan → Core ModuleState → ℕ → Advance → Type 0
IsEndMark p x i (Step step) = ⊥
IsEndMark p x i (Ended gap) = ((ready (design p) i (emitted_state p x i)).ended ≡ true) × (gap ≡ end_gap p x i)
IsEndMark p x i (Spent gap) = (machine.is_spent p.ops (ready (design p) i (emitted_state p x i)) ≡ true) × (gap ≡ end_gap p x i)

-- these are the end marks that were emitted, each that of its module's own run
pub record AreEndMarks (p : Plan) (h : Held) (ends : List (Option Advance)) : Type 0 where
  pub over : h.over ≡ map is_some ends
  pub each : (i : ℕ) (mark : Advance) → end_at ends i ≡ Some mark → IsEndMark p (core_of (design p) h) i mark
  pub short : (i : ℕ) → gap_of_end (end_at ends i) < gap_bound

-- ---- the end of a simulation

-- what is held is a final core of the plan that agrees with its lockstep run, with the end marks of the modules that are over
pub record IsFinished (p : Plan) (h : Held) (ends : List (Option Advance)) : Type 0 where
  pub fits : FitsEngine p
  pub channels : length h.channels ≡ length p.design.channels
  pub sound : IsSound (design p) h
  pub agreed : IsAgreed (design p) (lockstep_run p) p.cycles (core_of (design p) h)
  pub final : IsFinal (design p) p.cycles (core_of (design p) h)
  pub marks : AreEndMarks p h ends

-- the engine holds the end of the plan's simulation, with the end marks of the modules that are over
abbrev pub HoldsEnd : Plan → Engine → Type 0
HoldsEnd p e = IsFinished p (held_in e) e.ends.items

-- the plan's report, with its events or without any
abbrev pub report_with : Bool → Plan → Report
report_with events p = if events then report p else record (report p) { events = [] }
