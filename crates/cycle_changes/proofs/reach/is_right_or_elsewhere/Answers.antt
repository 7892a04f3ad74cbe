use Rattle.std.proofs.Common.{sym, ap, ◌∙◌, List, length, ◌<◌, subst, get_or}
use Rattle.cycle_changes.specs.{Access, Step, held_in, IsAccessAt, in_lane}
use Rattle.cycle_changes.proofs.HeldSteps.{step_is}
use Rattle.cycle_changes.proofs.reach.is_right_or_elsewhere.Goals as goal

pub returns-then-not-stands_at : goal.returns-then-not-stands_at
returns-then-not-stands_at c = λ e s.
    let (j, a, u, is, st) = s in
    let h = held_in c.args.engine.now in
    let same = ap (λ (t : Step). t.accesses) (step_is h c.args.at.module c.args.at.step (in_lane c.look.result) c.look.ensures.step) in
    absurd (c.stands_at.ensures c.if-not-stands_at.true j a (subst (λ (xs : List Access). j < length xs) same u)
    (subst (IsAccessAt c.args.port.side c.args.port.channel) (sym is ∙ ap (λ (xs : List Access). get_or xs j a) same) st))
