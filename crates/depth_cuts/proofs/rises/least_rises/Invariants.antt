use Rattle.std.proofs.Common.{◌≡◌, length}
use Rattle.depth_cuts.specs.{ReachesBits}
use Rattle.depth_cuts.proofs.rises.least_rises.Given as goal

abbrev pub invariant-loop-place : goal.invariant-loop-place
invariant-loop-place l = record {
  count : length l.used ≡ length l.demands.floors;
  reached : ReachesBits l.demands l.used l.at.depths l.rises;
}
