use Rattle.std.proofs.Common.{ℕ, List, drop, refl, sym, subst}
use Rattle.sim_core.specs.{Begins, none_unread, AreUnread}
use Rattle.sim_core.proofs.Leaving.{none_is, unread_set}
use Rattle.sim_core.proofs.unread.take_unread.Goals as goal

pub returns-then-at-as_slice-clause-next : goal.returns-then-at-as_slice-clause-next
returns-then-at-as_slice-clause-next c = λ all is.
    subst (λ (xs : List ℕ). Begins (drop c.args.skipped all) xs) (sym c.new.ensures) (drop c.args.skipped all, refl)

pub returns-clause-left : goal.returns-clause-left
returns-clause-left c = λ all n are.
    subst (AreUnread all n) (sym c.take_out.ensures.left)
    (unread_set all n c.args.unread.now c.args.channel none_unread are (λ inside. none_is (all c.args.channel)))
