-- How many cycles may be given anew, lane by lane.
use Rattle.std.proofs.Common.{◌≡◌, ℕ, ◌+◌, ◌<◌, ◌≤◌, List, length, map, take, nat_lt, arith}
use Rattle.std.proofs.lemmas.List.Sums.{sum_by_more, sum_by-le-sum_by, length-filter, count_by-le-length}
use Rattle.std.specs.Prelude.{All}
use Rattle.cycle_changes.specs.{Lane, IsSoundLane, lane_at, no_lane, timed_below, cycles_in, steps_in_lanes}
use Rattle.retime.proofs.Counts.{sum_map, cycles_within}

-- one lane more
pub left_more : (lanes : List Lane) (clock i left more total : ℕ) → i < length lanes
    → more + length (timed_below clock (lane_at lanes i)).cycles ≡ length (lane_at lanes i).steps
    → left + cycles_in (map (timed_below clock) (take i lanes)) ≤ steps_in_lanes (take i lanes) → total ≤ left + more
    → total + cycles_in (map (timed_below clock) (take (i + 1) lanes)) ≤ steps_in_lanes (take (i + 1) lanes)
left_more lanes clock i left more total within here before most =
    let count = λ (l : Lane). length l.cycles in
    let f = λ (l : Lane). length (timed_below clock l).cycles in
    let a = sum_map count (timed_below clock) (take i lanes) in
    let b = sum_map count (timed_below clock) (take (i + 1) lanes) in
    let c = sum_by_more f lanes i no_lane within in
    let d = sum_by_more (λ (l : Lane). length l.steps) lanes i no_lane within in
    omega (arith, a, b, c, d)

-- cycles below a clock are no more than steps
pub below_within : (clock : ℕ) (lanes : List Lane) → All IsSoundLane lanes
    → cycles_in (map (timed_below clock) lanes) ≤ steps_in_lanes lanes
below_within clock lanes s =
    let count = λ (l : Lane). length l.cycles in
    let few = λ (l : Lane). count_by-le-length (λ n. nat_lt n clock) l.cycles in
    let same = λ (l : Lane). length-filter (λ n. nat_lt n clock) l.cycles in
    let less = sum_by-le-sum_by (λ l. count (timed_below clock l)) count lanes (λ l. omega (arith, few l, same l)) in
    omega (arith, sum_map count (timed_below clock) lanes, less, cycles_within lanes s)
