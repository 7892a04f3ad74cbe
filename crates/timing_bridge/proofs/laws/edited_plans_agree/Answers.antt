use Rattle.timing_bridge.specs.{with_depth, after_edit, design}
use Rattle.std.proofs.Common.{sym}
use Rattle.timing_bridge.proofs.Edits.{edited_fits, plan_edit, same_depth, same_design}
use Rattle.timing_bridge.proofs.{Orders.agrees_on, Reports.every_report}
use Rattle.timing_bridge.proofs.laws.edited_plans_agree.Goals as goal

pub returns-clause-fits : goal.returns-clause-fits
returns-clause-fits c = edited_fits

pub returns-clause-agrees : goal.returns-clause-agrees
returns-clause-agrees c = plan_edit

pub returns-clause-reports : goal.returns-clause-reports
returns-clause-reports c = λ p h e fit t x g f l u actions y s final ss o.
    let q = with_depth p e.channel e.depth in
    let k = edited_fits p h e fit in
    every_report q k y (agrees_on q k p.cycles (after_edit (design p) x t) (plan_edit p h e fit p.cycles t x g f l u) actions y s) final
    ss o

pub returns-clause-design : goal.returns-clause-design
returns-clause-design c = λ p f depth l. sym (same_design p f depth l)

pub returns-clause-same_depth : goal.returns-clause-same_depth
returns-clause-same_depth c = same_depth
