use Rattle.std.proofs.Common.{◌≡◌, ℕ, List, drop}
use Rattle.std.specs.{Prelude.All, Prelude.filter_map, Prelude.fold, List.zip}
use Rattle.module_code.specs.{Block, Channel, stored, IsGuardedOf, effects_by, noted_by}
use Rattle.flow_design.specs.declared.design.Module.{Module}
use Rattle.module_code.proofs.commits.commit_all.Given as goal

-- writing what is left gives what writing all gives
abbrev pub invariant-loop-at : goal.invariant-loop-at
invariant-loop-at g l = g.R.Replies.known l.replies
    × ((channels : List Channel) (m : Module) (b : Block) (room : ℕ) → All (IsGuardedOf channels m b room) l.actions
    → fold (stored m b) l.state
    (effects_by b (filter_map noted_by (zip (drop l.at l.actions) (drop l.at l.items))) (g.R.Replies.left l.replies))
    ≡ fold (stored m b) l.initial.state (effects_by b (filter_map noted_by (zip l.actions l.items)) (g.R.Replies.left l.initial.replies)))
