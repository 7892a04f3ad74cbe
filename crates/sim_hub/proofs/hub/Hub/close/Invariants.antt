use Rattle.std.proofs.Common.{◌≡◌, ◌++◌, map}
use Rattle.turn_lock.specs.Passes.{view_of, pass_lock}
use Rattle.turn_lock.proofs.Joins.{after_joins}
use Rattle.sim_hub.specs.{module_view}
use Rattle.sim_hub.proofs.hub.Hub.close.Given as goal

abbrev pub invariant-loop-other : goal.invariant-loop-other
invariant-loop-other l =
    (pass_lock l.pass ≡ pass_lock l.initial.pass)
    × (view_of l.pass ≡ after_joins (view_of l.initial.pass) (map module_view l.yielded))
    × (l.fn.modules.items ≡ l.yielded ++ l.other-iterator.rest.items)
