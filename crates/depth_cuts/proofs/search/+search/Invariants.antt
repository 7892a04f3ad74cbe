use Rattle.std.proofs.Common.{◌≡◌, ◌-◌, length}
use Rattle.depth_cuts.specs.{IsBestSoFar, Improves, AreTried}
use Rattle.depth_cuts.proofs.search.+search.Given as goal

abbrev pub decreases-search : goal.decreases-search
decreases-search l = length l.demands.now.cuts - l.from

abbrev pub invariant-loop-turn : goal.invariant-loop-turn
invariant-loop-turn l = record {
  at : l.at ≡ l.fn.at;
  kept : IsBestSoFar l.demands l.best;
  improves : Improves l.demands.widths l.fn.best l.best;
  tried : AreTried l.demands l.at.depths l.best l.needs l.first l.turn;
}
