use Rattle.std.proofs.{Common.sym, Common.subst, Common.ℕ, Common.arith, Common.inl, Common.inr, lemmas.Bool.cases_eq}
use Rattle.cycle_changes.specs.{step_of, held_in, IsLooked, HasAccessAt}
use Rattle.cycle_changes.proofs.reach.are_right_in.Goals as goal

pub loop-step-preserved : goal.loop-step-preserved
loop-step-preserved c = λ k low l s.
    let h = held_in c.args.engine.now in
    elim (cases_eq k c.loop-step.step) [
      | inl e ↦ subst (IsLooked h c.args.owner) (sym e)
          (c.is_right_or_elsewhere.ensures c.if-not-is_right_or_elsewhere.false
          (subst (λ (j : ℕ). HasAccessAt c.args.port.side c.args.port.channel (step_of h c.args.owner j)) e s))
      | inr e ↦ c.loop-step.invariant k low (omega arith) s
    ]

pub returns : goal.returns
returns c = λ e k low high l s.
    c.loop-step.invariant k low
    (omega (arith, c.loop-step-test.false, c.min-end.ensures, c.saturating_add.ensures, c.frontier.ensures.count, c.frontier.type_inv)) s
