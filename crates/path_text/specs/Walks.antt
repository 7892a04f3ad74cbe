-- The chain without polls, link by link, and how spans tell it.
use Rattle.std.specs.Prelude.{◌≡◌, ⊤, ℕ, zero, suc, ◌-◌, ◌<◌, ◌≤◌, true, false, nat_le, if◌then◌else◌, Option, Some, None, option_map, List}
use Rattle.std.specs.Prelude.{[], All, AllPairs, Contains, fold, length, slice_index_or}
use Rattle.flow_word.specs.{Port, other_side}
use Rattle.flow_design.specs.{Plan}
use Rattle.lockstep_defs.specs.{owner}
use Rattle.timing_bridge.specs.{lag_in}
use Rattle.timelines.specs.{Doing, Span, EndsBefore, AreSpansBelow}
use Rattle.timelines.specs.declared.span.Doing.TheVariants.{Moves, Still}
use Rattle.depth_order.specs.{Link, moves_at, span_start, stood_at}
use Rattle.path_text.specs.declared.walk.At.{At}

-- ---- links

-- the link that ends with clock t, in which module m moves
abbrev pub link_at : Plan → ℕ → ℕ → Link
link_at p m t = record { «module» = m; first = span_start p m t; last = t; crossed = stood_at p (span_start p m t) m }

-- where the chain goes on before a link: at the other side of the port that it crosses, earlier by that side's lag
abbrev pub before_link : Plan → Link → Option At
before_link p l = option_map (λ a. record {
  «module» = owner p (record { side = other_side a.side; channel = a.channel });
  clock = l.first - lag_in p a.side a.channel;
}) l.crossed

-- where the chain goes on, if it does, a module moves, and that before this clock
abbrev pub MovesBefore : Plan → ℕ → Option At → Type 0
MovesBefore p end None = ⊤
MovesBefore p end (Some at) = (at.clock < end) × (moves_at p at.clock at.module ≡ true)

-- ---- spans

-- each span ends after it begins, and before the next one begins
pub record AreSpansSorted (spans : List Span) : Type 0 where
  pub in_order : AllPairs EndsBefore spans
  pub some : All (λ s. s.first < s.until) spans

-- `Some` is a span of the list that holds the clock; with `None`, no span does
abbrev pub IsWith : List Span → ℕ → Option Span → Type 0
IsWith spans clock None = (s : Span) → Contains spans s → s.first ≤ clock → clock < s.until → ⊥
IsWith spans clock (Some s) = Contains spans s × (s.first ≤ clock) × (clock < s.until)

abbrev pub stalled_port : Doing → Option Port
stalled_port Moves = None
stalled_port (Still a) = Some a

-- the port at which the module stalls in the clock before this one, if it stalls then
abbrev pub StoodBefore : Plan → ℕ → ℕ → Option Port → Type 0
StoodBefore p m zero o = o ≡ None
StoodBefore p m (suc b) o = moves_at p b m ≡ false → o ≡ stood_at p (suc b) m

-- the clock after the last one in which the module moves, after one more span that ends at `until`
abbrev pub end_by : Option ℕ → ℕ → Doing → Option ℕ
end_by end until Moves = Some until
end_by end until (Still a) = end

abbrev pub end_with : Option ℕ → Span → Option ℕ
end_with end s = end_by end s.until s.doing

-- the clock after the last one in which the module moves, by all its spans
abbrev pub moving_end : List Span → Option ℕ
moving_end spans = fold end_with None spans

-- ---- the last move

-- one entry per module of the plan: its spans below a clock
pub record HasSpans (p : Plan) (end : ℕ) (spans : List (List Span)) : Type 0 where
  pub count : length spans ≡ length p.design.modules
  pub each : (m : ℕ) → m < length spans → AreSpansBelow p m end (slice_index_or spans m [])

-- `at` is the last move of the first n modules before clock `end`: no later one, and no earlier module that moves in that clock
pub record IsLast (p : Plan) (end n : ℕ) (at : At) : Type 0 where
  pub within : at.module < n
  pub below : at.clock < end
  pub moves : moves_at p at.clock at.module ≡ true
  pub none_later : (m c : ℕ) → m < n → at.clock < c → c < end → moves_at p c m ≡ false
  pub none_before : (m : ℕ) → m < at.module → moves_at p at.clock m ≡ false

abbrev pub IsLastMove : Plan → ℕ → ℕ → Option At → Type 0
IsLastMove p end n None = (m c : ℕ) → m < n → c < end → moves_at p c m ≡ false
IsLastMove p end n (Some at) = IsLast p end n at

-- the last move after one more module is looked at; the number is the clock after that module's last move, if it moves at all
abbrev pub last_with : Option At → ℕ → Option ℕ → Option At
last_with last m None = last
last_with None m (Some end) = Some (record { «module» = m; clock = end - 1 })
last_with (Some at) m (Some end) =
    if nat_le (end - 1) at.clock then Some at else Some (record { «module» = m; clock = end - 1 })
