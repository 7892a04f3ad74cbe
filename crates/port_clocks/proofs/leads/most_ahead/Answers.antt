use Rattle.std.proofs.Common.{◌≡◌, ◌+◌, length, sym, subst, arith, ◌∙◌}
use Rattle.port_clocks.proofs.Most.{IsMostOf, none_yet, one_ahead, none_ahead, most_is}
use Rattle.port_clocks.proofs.leads.most_ahead.Goals.{then-is_after, else-is_after}
use Rattle.port_clocks.proofs.leads.most_ahead.Goals as goal

pub loop-at-init : goal.loop-at-init
loop-at-init c = none_yet c.args.first.now c.args.second.now

pub loop-at-preserved : goal.loop-at-preserved
loop-at-preserved c =
    let first = c.args.first.now in
    let second = c.args.second.now in
    let at = c.loop-at.at in
    elim c.if-is_after.branch [
      | then-is_after w ↦
          subst (IsMostOf first second (at + 1)) (sym w.most-is)
          (one_ahead first second c.requires.first c.requires.second at c.loop-at.most c.loop-at-test.true
          (sym c.is_after.ensures ∙ w.if-is_after.true) c.loop-at.invariant)
      | else-is_after w ↦
          subst (IsMostOf first second (at + 1)) (sym w.most-is)
          (none_ahead first second c.requires.second at c.loop-at.most (sym c.is_after.ensures ∙ w.if-is_after.false) c.loop-at.invariant)
    ]

pub returns : goal.returns
returns c =
    let first = c.args.first.now in
    let second = c.args.second.now in
    let few = c.loop-at.auto.at-end in
    let all : c.loop-at.at ≡ length first = omega arith in
    λ clock early. most_is first second c.requires.first c.loop-at.most clock early
    (subst (λ n. IsMostOf first second n c.loop-at.most) all c.loop-at.invariant)
