-- The outcomes of queries, by what is possible, and a module's next step in the history.
use Rattle.std.specs.Prelude.{ℕ, Bool, ◌≡◌, if◌then◌else◌, List, [], ◌∷◌, ◌++◌, map}
use Rattle.flow_word.specs.{Kind, is_blocking}
use Rattle.flow_design.specs.{Plan, ModuleState, Request}
use Rattle.lockstep_defs.specs.{is_yes, requests_of, history, steps_of, HistoryStep, reply_by}
use Rattle.event_timing.specs.Core.{Core}
use Rattle.timing_bridge.specs.CoreReports.{core_steps}

-- the outcome of a query, by whether it is possible; `empty` and `full` answer the negation
abbrev pub outcome_when : Kind → Bool → Bool
outcome_when k possible = is_yes (reply_by k possible 0)

-- the outcomes of the queries among these requests, by whether each request is possible
abbrev pub outcomes_by : List Request → List Bool → List Bool
outcomes_by [] flags = []
outcomes_by (r ∷ rs) [] = []
outcomes_by (r ∷ rs) (b ∷ bs) = if is_blocking r.kind then outcomes_by rs bs else outcome_when r.kind b ∷ outcomes_by rs bs

-- the requests of module i's first step without a cycle
abbrev pub first_requests : Plan → Core ModuleState → ℕ → List Request
first_requests p x i = requests_of p (i, x.state i (x.timed i))

-- step s is module i's next step in the history: it comes after the steps with a cycle, and its requests are those of the first
-- step without one; other steps may follow before clock c
pub record IsNextInHistory (p : Plan) (x : Core ModuleState) (i c : ℕ) (s : HistoryStep) : Type 0 where
  pub later : List HistoryStep
  pub there : steps_of i (history p c) ≡ core_steps p x i ++ s ∷ later
  pub requests : map (λ e. e.request) s.exchanges ≡ first_requests p x i
