use Rattle.std.proofs.Common.{◌≡◌, ◌+◌, ◌<◌, ◌≤◌, ℕ, length, get_or}
use Rattle.port_clocks.specs.Leads as counts
use Rattle.port_clocks.proofs.leads.ahead_clocks.Given as goal

abbrev pub invariant-loop-at : goal.invariant-loop-at
invariant-loop-at l = record {
  total : l.total ≡ counts.ahead_clocks l.margin l.first l.second l.from;
  within : l.from ≤ l.clock;
  early : (k : ℕ) → l.at ≤ k → k < length l.second → l.from ≤ get_or l.second k 0 + 1;
  reach : (c : ℕ) → l.from ≤ c → c < l.clock → l.at ≤ counts.before l.second c;
}
