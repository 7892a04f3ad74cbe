-- In how many clocks a module moves, and in how many it stalls, for which cause.
use Rattle.std.specs.Prelude.{ℕ, ◌≡◌, ◌≢◌, ◌-◌, ◌<◌, ◌≤◌, Bool, true, false, Option, None, Some, List, if◌then◌else◌, count_by, sum_by}
use Rattle.std.specs.List.{range_with_len}
use Rattle.flow_word.specs.{Port, Side}
use Rattle.flow_design.specs.{Plan, same_port, clock_of}
use Rattle.lockstep_defs.specs.{verdict}
use Rattle.timelines.specs.{declared.span.Doing.Doing, declared.span.Span.Span, Doings.doing}
use Rattle.timelines.specs.declared.span.Doing.TheVariants.{Moves, Still}

-- ---- tests of what is done

abbrev pub is_moving : Doing → Bool
is_moving Moves = true
is_moving (Still port) = false

abbrev pub is_still : Doing → Bool
is_still Moves = false
is_still (Still port) = true

-- the module stalls, since it cannot pop, or cannot push, at this port
abbrev pub is_still_at : Port → Doing → Bool
is_still_at port Moves = false
is_still_at port (Still at) = same_port port at

-- what a module does passes a test; a module that is over does nothing
abbrev pub doing_passes : (Doing → Bool) → Option Doing → Bool
doing_passes test None = false
doing_passes test (Some d) = test d

-- ---- clocks

-- in how many clocks before `end` what module i does passes the test
unfoldable pub clocks_in : (Doing → Bool) → Plan → ℕ → ℕ → ℕ
clocks_in test p i end = count_by (λ c. doing_passes test (doing p c i)) (range_with_len 0 end)

-- in how many clocks before the verdict's module i moves
abbrev pub moved_clocks : Plan → ℕ → ℕ
moved_clocks p i = clocks_in is_moving p i (clock_of (verdict p))

-- in how many clocks before the verdict's module i stalls
abbrev pub still_clocks : Plan → ℕ → ℕ
still_clocks p i = clocks_in is_still p i (clock_of (verdict p))

-- in how many clocks before the verdict's module i stalls for this cause
abbrev pub still_clocks_at : Plan → ℕ → Side → ℕ → ℕ
still_clocks_at p i side f = clocks_in (is_still_at (record { side = side; channel = f })) p i (clock_of (verdict p))

-- module i is over from this clock on, or this is the verdict's clock; it is not over before
pub record IsOverFrom (p : Plan) (i clock : ℕ) : Type 0 where
  pub within : clock ≤ clock_of (verdict p)
  pub before : (c : ℕ) → c < clock → doing p c i ≢ None
  pub over : (c : ℕ) → clock ≤ c → c < clock_of (verdict p) → doing p c i ≡ None

-- ---- spans

-- how many clocks a span has, or 0 where what it says does not pass the test
abbrev pub span_clocks : (Doing → Bool) → Span → ℕ
span_clocks test s = if test s.doing then s.until - s.first else 0

-- how many clocks those spans have together that pass the test
abbrev pub spans_clocks : (Doing → Bool) → List Span → ℕ
spans_clocks test spans = sum_by (span_clocks test) spans
