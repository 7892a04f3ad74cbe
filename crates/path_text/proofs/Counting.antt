-- The clocks of a module and the waiting on a channel, as they grow link by link.
use Rattle.std.proofs.Common.{ℕ, ◌+◌, ◌<◌, ◌≤◌, Bool, true, false, cond, eqb, List, length, take, get_or, arith}
use Rattle.std.proofs.lemmas.List.Sums.{sum_by_more_le_part}
use Rattle.std.specs.Prelude.{sum_by}
use Rattle.path_text.specs.{Link, Polled, link_clocks, clocks_at, clocks_spent, clocks_waited, clocks_waiting, waiting_at}

part : (m : ℕ) (l : Link) → clocks_at m l ≤ link_clocks l
part m l = by_test (eqb l.module m)
  where
    by_test : (b : Bool) → cond b (link_clocks l) 0 ≤ link_clocks l
    by_test true = omega arith
    by_test false = omega arith

-- the clocks so far and those of one link more are within those of all
pub clocks_within : (links : List Link) (i m : ℕ) (l : Link) → i < length links
    → clocks_spent (take i links) m + link_clocks (get_or links i l) ≤ sum_by link_clocks links
clocks_within links i m l inside = sum_by_more_le_part (clocks_at m) link_clocks links i l inside (part m)

waiting_part : (f : ℕ) (q : Polled) → waiting_at f q ≤ clocks_waiting q
waiting_part f q = by_test (eqb q.channel f)
  where
    by_test : (b : Bool) → cond b (clocks_waiting q) 0 ≤ clocks_waiting q
    by_test true = omega arith
    by_test false = omega arith

-- the waiting so far and that of one poll more are within that of all
pub waiting_within : (polls : List Polled) (i f : ℕ) (q : Polled) → i < length polls
    → clocks_waited (take i polls) f + clocks_waiting (get_or polls i q) ≤ sum_by clocks_waiting polls
waiting_within polls i f q inside = sum_by_more_le_part (waiting_at f) clocks_waiting polls i q inside (waiting_part f)
