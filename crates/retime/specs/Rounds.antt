-- Rounds over the modules, in which steps get their cycles and queries their answers.
use Rattle.std.specs.{Prelude.ℕ, Prelude.List, Prelude.length, Prelude.map, List.sum_by}
use Rattle.flow_word.specs.{Step}
use Rattle.event_graph.specs.{Lane}
use Rattle.outcome_guard.specs.{Guard, declared.guard.Guard.TheVariants.Same, declared.guard.Guard.TheVariants.Differs}
use Rattle.event_timing.specs.{Design, Action, ActsAll, AreTimings, Core.Core}
use Rattle.engine_view.specs.{Held.Held, core_of, Engine, held_in, IsKept, IsDifferent, IsIdle, OfEach}

-- Assigns and Answers, each permitted, lead from a core x of the theory to one that is held
pub record LeadsAll {S : Type 0} (d : Design S) (limit : ℕ) (x : Core S) (g : Held) : Type 0 where
  pub actions : List Action
  pub timings : AreTimings actions
  pub all : ActsAll d limit x actions (core_of d g)
  pub kept : IsKept d g

-- the rounds have ended: no Assign or Answer is permitted for any module, or a query is found with another outcome
abbrev pub HasEnded : {S : Type 0} → Guard → Design S → ℕ → Held → Type 0
HasEnded {S} Same d limit g = (m : ℕ) → IsIdle d limit (core_of d g) m
HasEnded {S} (Differs q) d limit g = IsDifferent d limit g q.module q

-- for each design of which s is a core: Assigns and Answers lead from it to t
abbrev pub HasGone : ℕ → Engine → Engine → Type 0
HasGone limit s t = OfEach s (λ d. LeadsAll d limit (core_of d (held_in s)) (held_in t))

abbrev pub HasEndedForEach : Guard → ℕ → Engine → Type 0
HasEndedForEach guard limit t = OfEach t (λ d. HasEnded guard d limit (held_in t))

-- the steps of all modules, without cycles
abbrev pub only_steps : List Lane → List (List Step)
only_steps lanes = map (λ l. l.steps) lanes

-- how many steps of all modules have a cycle
abbrev pub cycles_in : List Lane → ℕ
cycles_in lanes = sum_by (λ l. length l.cycles) lanes

abbrev pub steps_in_lanes : List Lane → ℕ
steps_in_lanes lanes = sum_by (λ l. length l.steps) lanes
