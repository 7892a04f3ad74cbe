-- Spans that go up to a clock.
use Rattle.std.specs.Prelude.{ℕ, ◌≡◌, ◌-◌, ◌<◌, ◌≤◌, List, length, slice_index_or, Some}
use Rattle.flow_design.specs.{Plan}
use Rattle.timelines.specs.{declared.span.Doing.Doing, declared.span.Span.Span, Doings.doing, Spans.AreSpansBelow}
use Rattle.timelines.specs.declared.span.Doing.TheVariants.{Moves}

-- the last of these spans, or a span without a clock where there is none
abbrev pub last_span : List Span → Span
last_span spans = slice_index_or spans (length spans - 1) (record { first = 0; until = 0; doing = Moves })

-- the clock up to which these spans go: the one after the last of them
abbrev pub reached : List Span → ℕ
reached spans = (last_span spans).until

-- these are the spans of module i below the clock up to which they go
abbrev pub Comes : Plan → ℕ → List Span → Type 0
Comes p i spans = AreSpansBelow p i (reached spans) spans

-- module i does this in each clock from `first` on, up to `until`
abbrev pub Does : Plan → ℕ → ℕ → ℕ → Doing → Type 0
Does p i first until d = (c : ℕ) → first ≤ c → c < until → doing p c i ≡ Some d
