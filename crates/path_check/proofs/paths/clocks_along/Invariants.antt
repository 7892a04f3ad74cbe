use Rattle.path_check.specs.{IsAlong, depths_with}
use Rattle.path_check.proofs.paths.clocks_along.Given as goal

abbrev pub invariant-loop-at : goal.invariant-loop-at
invariant-loop-at l = IsAlong l.engine (depths_with l.depths l.edit) l.path l.at l.clocks
