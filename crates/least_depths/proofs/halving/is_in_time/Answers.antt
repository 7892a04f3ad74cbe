use Rattle.std.proofs.Common.{◌∙◌, ap}
use Rattle.least_depths.specs.{Plan, verdict, is_done_by}
use Rattle.least_depths.proofs.Sessions.{edited_plan, edited_runs}
use Rattle.least_depths.proofs.halving.is_in_time.Goals as goal

pub returns-clause-runs : goal.returns-clause-runs
returns-clause-runs g c = edited_runs c.args.session.now c.edit.new.self c.args.edit.now c.in_ok-edit.ensures.edited

pub returns-clause-in_time : goal.returns-clause-in_time
returns-clause-in_time g c =
    let new = c.edit.new.self in
    c.is_done_by.ensures
    ∙ ap (is_done_by c.args.clock) (c.verdict.ensures
    ∙ ap (λ (p : Plan). verdict p) (edited_plan c.args.session.now new c.args.edit.now c.in_ok-edit.ensures.edited))
