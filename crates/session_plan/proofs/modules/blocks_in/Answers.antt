use Rattle.std.proofs.Common.{◌≡◌, subst, map, IfOk}
use Rattle.session_plan.specs.{Scope, block, sections}
use Rattle.session_plan.specs.declared.section.Level.TheVariants as level
use Rattle.session_plan.proofs.modules.blocks_in.Goals as goal

pub returns : goal.returns
returns c =
    subst (λ (s : Scope). IfOk c.blocks_of-blocks.result (λ blocks. blocks ≡ map (block s) (sections level.Blocks c.args.body.now)))
    (c.in_ok-own.ensures c.args.channels.now) c.blocks_of-blocks.ensures
