use Rattle.std.proofs.Common.{◌≡◌, drop}
use Rattle.std.specs.List.{filter}
use Rattle.path_text.specs.{latest_one, find_clock, lies_in}
use Rattle.path_text.proofs.search.latest.Given as goal

abbrev pub invariant-loop-at : goal.invariant-loop-at
invariant-loop-at l = l.found ≡ latest_one find_clock (filter (lies_in l.link) (drop l.at l.finds))
