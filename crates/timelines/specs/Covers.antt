-- What the spans of a module have together.
use Rattle.std.specs.Prelude.{ℕ, ◌≡◌, ◌≢◌, ◌<◌, ◌≤◌}
use Rattle.timelines.specs.declared.span.Span.{Span}

-- the clock is one of the span
abbrev pub HasClock : Span → ℕ → Type 0
HasClock s c = (s.first ≤ c) × (c < s.until)

-- the second span begins where the first one ends, and says something else
pub record GoesOnFrom (s t : Span) : Type 0 where
  pub joined : t.first ≡ s.until
  pub differs : t.doing ≢ s.doing
