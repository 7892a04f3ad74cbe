use Rattle.std.proofs.Common.{◌≡◌, ◌∙◌, sym, subst, ℕ, List, None}
use Rattle.std.specs.List.{All}
use Rattle.flow_check.specs.{Statement, Plan, Edit, Scale, EditFits, FitsEngine, KeepsReadingRules, plan_of, fault_on_line, fault_of}
use Rattle.flow_check.specs.{checking_fault, KeepsScale}
use Rattle.flow_check.proofs.{Reading.edits_fit, Reading.plan_read, Fits.fits, Fits.none_mapped}
use Rattle.flow_check.proofs.session.check.Goals as goal

-- the plan of a session that was read and has no fault
both : (scale : Scale) (statements : List Statement) (lines : List ℕ) (plan : Plan) → plan ≡ plan_of scale statements
    → KeepsReadingRules scale statements → fault_of scale statements lines ≡ None → FitsEngine plan × KeepsScale scale plan
both scale statements lines plan is rules told =
    let none = none_mapped (fault_on_line statements lines) (checking_fault scale (plan_of scale statements)) told in
    subst (λ (p : Plan). FitsEngine p × KeepsScale scale p) (sym is)
    (fits scale (plan_of scale statements) (plan_read scale statements rules) none)

pub returns-in-None-clause-engine : goal.returns-in-None-clause-engine
returns-in-None-clause-engine c = λ rules.
    (both c.args.scale c.as_slice-statements.result.now c.as_slice.result.now _ c.in_ok-checked.ensures.plan
    (subst (KeepsReadingRules c.args.scale) (sym c.as_slice-statements.ensures) rules) (sym c.in_ok-fault.ensures ∙ c.in-None.is)).0

pub returns-in-None-clause-keeps : goal.returns-in-None-clause-keeps
returns-in-None-clause-keeps c = λ rules.
    (both c.args.scale c.as_slice-statements.result.now c.as_slice.result.now _ c.in_ok-checked.ensures.plan
    (subst (KeepsReadingRules c.args.scale) (sym c.as_slice-statements.ensures) rules) (sym c.in_ok-fault.ensures ∙ c.in-None.is)).1

pub returns-in-None-clause-editable : goal.returns-in-None-clause-editable
returns-in-None-clause-editable c = λ rules.
    let statements : List Statement = c.as_slice-statements.result.now in
    let kept : KeepsReadingRules c.args.scale statements
    = subst (KeepsReadingRules c.args.scale) (sym c.as_slice-statements.ensures) rules in
    subst (λ (p : Plan). All (EditFits p) c.in_ok-checked.checked.edits) (sym c.in_ok-checked.ensures.plan)
    (subst (λ (l : List Edit). All (EditFits (plan_of c.args.scale statements)) l) (sym c.in_ok-checked.ensures.edits)
    (edits_fit c.args.scale statements kept))
