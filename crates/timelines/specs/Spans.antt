-- The spans of a module.
use Rattle.std.specs.Prelude.{ℕ, ◌≡◌, ◌≢◌, ◌+◌, ◌<◌, ◌≤◌, ◌↔◌, Some, List, AllPairs, Contains}
use Rattle.flow_design.specs.{Plan, clock_of}
use Rattle.lockstep_defs.specs.{verdict}
use Rattle.timelines.specs.{declared.span.Span.Span, Doings.doing}

-- a maximal interval of clocks below `end` in which module i does the same throughout
pub record IsSpan (p : Plan) (i end : ℕ) (s : Span) : Type 0 where
  pub some : s.first < s.until
  pub below : s.until ≤ end
  pub throughout : (c : ℕ) → s.first ≤ c → c < s.until → doing p c i ≡ Some s.doing
  -- the module does something else in the clock before the span, and in the clock after it
  pub begins : (c : ℕ) → c + 1 ≡ s.first → doing p c i ≢ Some s.doing
  pub ends : s.until < end → doing p s.until i ≢ Some s.doing

-- the first span ends where the second one begins, or earlier
abbrev pub EndsBefore : Span → Span → Type 0
EndsBefore s t = s.until ≤ t.first

-- the spans of module i below clock `end`, in order
pub record AreSpansBelow (p : Plan) (i end : ℕ) (spans : List Span) : Type 0 where
  pub all : (s : Span) → Contains spans s ↔ IsSpan p i end s
  pub in_order : AllPairs EndsBefore spans

-- the spans of module i: those below the clock of the verdict
abbrev pub AreSpans : Plan → ℕ → List Span → Type 0
AreSpans p i spans = AreSpansBelow p i (clock_of (verdict p)) spans
