-- The spans of a module as a list: there is one for each clock in which it begins to do something else.
use Rattle.std.specs.Prelude.{ℕ, ◌+◌, ◌-◌, ◌==◌, ◌||◌, Bool, true, false, not, unwrap_or, Option, Some, None, List, map, filter}
use Rattle.std.specs.List.{range_with_len, prefix_len}
use Rattle.flow_design.specs.{Plan, same_port}
use Rattle.timelines.specs.{last_clock, Doing, Span, doing, declared.span.Doing.TheVariants.Moves, declared.span.Doing.TheVariants.Still}

-- two doings are the same: the module moves in both, or it stalls in both for one cause
abbrev pub same_doing : Doing → Doing → Bool
same_doing Moves Moves = true
same_doing Moves (Still b) = false
same_doing (Still a) Moves = false
same_doing (Still a) (Still b) = same_port a b

abbrev pub is_doing : Doing → Option Doing → Bool
is_doing d None = false
is_doing d (Some e) = same_doing d e

-- module i does this in a clock
abbrev pub does : Plan → ℕ → Doing → ℕ → Bool
does p i d c = is_doing d (doing p c i)

-- module i does this in clock c, and did something else in the clock before
abbrev pub begins_with : Plan → ℕ → ℕ → Option Doing → Bool
begins_with p i c None = false
begins_with p i c (Some d) = c == 0 || not (does p i d (c - 1))

abbrev pub begins_span : Plan → ℕ → ℕ → Bool
begins_span p i c = begins_with p i c (doing p c i)

-- the span that begins in clock c: it goes on as long as module i does the same, up to the verdict's clock
abbrev pub span_with : Plan → ℕ → ℕ → Doing → Span
span_with p i c d = record { first = c; until = c + prefix_len (does p i d) (range_with_len c (last_clock p - c)); doing = d }

abbrev pub span_at : Plan → ℕ → ℕ → Span
span_at p i c = span_with p i c (unwrap_or (doing p c i) Moves)

unfoldable pub spans_of : Plan → ℕ → List Span
spans_of p i = map (span_at p i) (filter (begins_span p i) (range_with_len 0 (last_clock p)))
