use Rattle.std.proofs.Common.{[], ◌∷◌, ◌++◌, ap, sym, subst, ◌∙◌}
use Rattle.sim_core.specs.{declared.unread.Unread.Unread, AreUnread}
use Rattle.sim_core.proofs.Leaving.{unread_none, unread_push}
use Rattle.sim_core.proofs.unread.nothing_unread.Goals as goal

pub loop-init : goal.loop-init
loop-init c = λ all n. subst (AreUnread all n) (sym c.in_ok-unread.ensures) (unread_none all n)

pub loop-preserved : goal.loop-preserved
loop-preserved c = λ all n.
    subst (AreUnread all n) (sym (c.in_ok-push.ensures.ok ∙ ap (λ (u : Unread). c.loop.unread ++ u ∷ []) c.no_values.ensures))
    (unread_push all n c.loop.unread (c.loop.invariant all n))
