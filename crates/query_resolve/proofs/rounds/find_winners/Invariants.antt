use Rattle.std.proofs.Common.{◌≡◌, ℕ, ◌<◌, ◌≤◌, length}
use Rattle.query_resolve.specs.{AreWonBut, at_place}
use Rattle.query_resolve.proofs.rounds.find_winners.Given as goal

-- the winners are right but perhaps here
abbrev pub invariant-loop-at : goal.invariant-loop-at
invariant-loop-at l = record {
  count : length l.places.items ≡ length l.initial.places.items;
  below : l.at < l.count;
  begins : (j : ℕ) → l.count ≤ j → at_place l.places.items j ≡ at_place l.initial.places.items j;
  won : AreWonBut l.places.items l.count l.at;
}

abbrev pub decreases-loop-at : goal.decreases-loop-at
decreases-loop-at l = l.at
