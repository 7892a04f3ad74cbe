-- The answers to the commands that do more than simulate: `advise`, `order`, `sweep`, `size` and `least`.
use Rattle.std.specs.Prelude.{ℕ, ◌==◌, ◌&&◌, ◌||◌, not, Bool, nat_lt, if◌then◌else◌, List, [], ◌∷◌, ◌++◌, Option, None, Some, codes}
use Rattle.std.specs.Prelude.{decimal, find, length, map, sum}
use Rattle.std.specs.List.{list_any, range_with_len}
use Rattle.flow_design.specs.{Design, Plan, clock_of, Token}
use Rattle.lockstep_defs.specs.{is_query, report}
use Rattle.serial_order.specs.{Used, Order, order_of}
use Rattle.depth_sweep.specs.{Point, grid_of, most_points, point}
use Rattle.depth_advice.specs.{advised, wide, depth_lines}
use Rattle.least_depths.specs.{sizes, size_text}
use Rattle.least_memory.specs.{leasts, least_text}
use Rattle.report_text.specs.{line, text_of_lines, verdict_tokens, verdict_words, module_name}
use Rattle.whole_answer.specs.{declared.answer.Answer.Answer, declared.ending.Ending.Ending, Job.is_done, Job.ending_of}
use Rattle.whole_answer.specs.declared.ending.Ending.TheVariants.{Done, Text}
use Rattle.serial_order.specs.declared.order.Used.TheVariants as used
use Rattle.serial_order.specs.declared.order.Order.TheVariants as order

-- ---- `advise`

-- the verdict with FIFOs that never block, and the advised depths
unfoldable pub advice : Plan → Answer
advice p = record {
  text = text_of_lines ((codes "advise" ∷ []) ∷ verdict_tokens (report (wide p)).verdict ∷ depth_lines p.design.channels (advised p));
  ending = ending_of (report (wide p)).verdict;
}

-- ---- `order`

abbrev pub used_words : Used → List Token
used_words (used.Register n) = codes "register" ∷ decimal n ∷ []
used_words (used.Memory n) = codes "memory" ∷ decimal n ∷ []
used_words (used.Reading n) = codes "reading" ∷ decimal n ∷ []
used_words (used.Writing n) = codes "writing" ∷ decimal n ∷ []

-- the words `serial`, `query B O`, `late B O` or `wide B KIND N`
abbrev pub order_words : Order → List Token
order_words order.Serial = codes "serial" ∷ []
order_words (order.Query b o) = codes "query" ∷ decimal b ∷ decimal o ∷ []
order_words (order.Late b o) = codes "late" ∷ decimal b ∷ decimal o ∷ []
order_words (order.Wide b thing) = codes "wide" ∷ decimal b ∷ used_words thing

-- the tokens of the line `order MODULE ..`
abbrev pub order_tokens : Design → ℕ → List Token
order_tokens design i = codes "order" ∷ module_name design i ∷ order_words (order_of design i)

-- the answer to `order`: a line for each module
unfoldable pub ordered : Design → Answer
ordered design = record {
  text = text_of_lines (map (order_tokens design) (range_with_len 0 (length design.modules)));
  ending = Done;
}

-- ---- `sweep`

-- the tokens of the line of a point: `point`, its depths, and its verdict's word and clock
abbrev pub point_tokens : Point → List Token
point_tokens p = codes "point" ∷ map decimal p.depths ++ verdict_words p.verdict

abbrev pub is_done_at : Point → Bool
is_done_at p = is_done (ending_of p.verdict)

-- the point is done in an earlier clock than the other, or in the same clock with a lesser sum of depths
abbrev pub beats : Point → Point → Bool
beats p other = is_done_at p && (nat_lt (clock_of p.verdict) (clock_of other.verdict)
    || clock_of p.verdict == clock_of other.verdict && nat_lt (sum p.depths) (sum other.depths))

-- the first point that is done and that no other point beats
unfoldable pub best_of : List Point → Option Point
best_of points = find (λ p. is_done_at p && not (list_any (λ q. beats q p) points)) points

-- the tokens of the line of the best point: `best` and its depths, or `best none`
abbrev pub best_tokens : Option Point → List Token
best_tokens None = codes "best" ∷ codes "none" ∷ []
best_tokens (Some p) = codes "best" ∷ map decimal p.depths

abbrev pub first_ending : List Point → Ending
first_ending [] = Done
first_ending (p ∷ points) = ending_of p.verdict

-- `Done` where some point is done, and otherwise the ending of the first point's verdict
abbrev pub points_ending : List Point → Ending
points_ending points = if list_any is_done_at points then Done else first_ending points

-- a line for each point, and the line of the best point
unfoldable pub told_points : List Point → Answer
told_points points = record {
  text = text_of_lines (map point_tokens points ++ best_tokens (best_of points) ∷ []);
  ending = points_ending points;
}

-- the answer `refused 0 N`, for a session that a command does not take
abbrev pub not_taken : ℕ → Answer
not_taken code = record { text = line (codes "refused" ∷ decimal 0 ∷ decimal code ∷ []); ending = Text }

-- the answer to `sweep`: the points of a plan's grid, or a refusal where it has too many
unfoldable pub swept : ℕ → ℕ → Plan → Answer
swept lo hi p =
    if nat_lt most_points (length (grid_of p lo hi)) then not_taken 21 else told_points (map (point p) (grid_of p lo hi))

-- ---- `size` and `least`

-- the answer to `size`: the smallest FIFOs that lose no more than `slack` clocks, with the ending of the verdict with them
unfoldable pub sized : ℕ → Plan → Answer
sized slack p = record { text = size_text slack p; ending = ending_of (sizes slack p).verdict }

-- the design has a query operation
unfoldable pub has_query_operation : Design → Bool
has_query_operation design = list_any (λ m. list_any (λ b. list_any (λ t. is_query t.op) b.ops) m.blocks) design.modules

-- the depths with the fewest bits that lose no more than `slack` clocks, with the ending of the verdict with them
unfoldable pub fewest_bits : ℕ → Plan → Answer
fewest_bits slack p = record { text = least_text slack p; ending = ending_of (leasts slack p).verdict }

-- the answer to `least`: the depths with the fewest bits, or `refused 0 22` where some operation is a query
unfoldable pub least_told : ℕ → Plan → Answer
least_told slack p = if has_query_operation p.design then not_taken 22 else fewest_bits slack p
