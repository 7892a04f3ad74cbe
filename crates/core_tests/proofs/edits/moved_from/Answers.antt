use Rattle.flow_design.specs.declared.limits.Scale.TheVariants.{Standard}
use Rattle.core_tests.proofs.edits.moved_from.Goals as goal

pub edit_on-requires-clause-fits : goal.edit_on-requires-clause-fits
edit_on-requires-clause-fits g c =
    let rules = c.keeps_rules.ensures.rules Standard c.args.text.now c.in_ok-session.session.statements _ c.in_ok-session.ensures.answer in
    let all = c.in_ok-checked.ensures.editable rules in
    rw (c.in_ok-core.ensures.plan, c.new.ensures, c.as_slice-edits.ensures)
    (all c.args.number _ (rw (← c.as_slice-edits.ensures) c.if-assert.false))
