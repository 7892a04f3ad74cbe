use Rattle.std.proofs.Common.{◌≡◌, length}
use Rattle.turn_lock.specs.Passes.{view_of, pass_lock}
use Rattle.sim_hub.specs.{IsFirstPass, AreFrom}
use Rattle.sim_hub.proofs.hub.ends.split_all.Given as goal

abbrev pub invariant-loop-made : goal.invariant-loop-made
invariant-loop-made l =
    (pass_lock l.first ≡ pass_lock l.initial.first) × IsFirstPass l.made (view_of l.initial.first).seen (view_of l.first)
    × ((view_of l.first).passes ≡ (view_of l.initial.first).passes) × (length l.list.items ≡ l.made)
    × AreFrom (pass_lock l.initial.first) (view_of l.initial.first).seen l.list.items
