use Rattle.std.proofs.Common.{◌≡◌, ◌<◌, ◌≤◌, ℕ, ◌-◌, length, get_or}
use Rattle.module_interp.proofs.own_channels.place_of.Given as goal

-- the channel stands between these places, if it does
abbrev pub invariant-loop-from : goal.invariant-loop-from
invariant-loop-from l = record {
  order : l.from ≤ l.after;
  inside : l.after ≤ length l.channels;
  between : (k : ℕ) → k < length l.channels → get_or l.channels k 0 ≡ l.channel → (l.from ≤ k) × (k < l.after);
}

abbrev pub decreases-loop-from : goal.decreases-loop-from
decreases-loop-from l = l.after - l.from
