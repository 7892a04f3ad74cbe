use Rattle.flow_design.proofs.Failing.{on_err}
use Rattle.sim_io.proofs.Pending.{prefix_as, told_as}
use Rattle.trace_text.proofs.LogLines.{whole_log}
use Rattle.trace_text.proofs.log.log_text.Goals as goal

pub returns-in_err-write_steps-clause-prefix : goal.returns-in_err-write_steps-clause-prefix
returns-in_err-write_steps-clause-prefix g c =
    on_err _ (prefix_as _ _ _ _ c.in_err-write_steps.ensures.err
    (whole_log c.args.core.now.plan c.verdict.result c.in_ok-pending.pending _ c.in_ok-pending.ensures
    c.in_ok-print_verdict.ensures.ok c.verdict.ensures))

pub returns-clause-rest : goal.returns-clause-rest
returns-clause-rest g c =
    told_as _ _ _ _ _ c.in_ok-write_steps.ensures.ok
    (whole_log c.args.core.now.plan c.verdict.result c.in_ok-pending.pending _ c.in_ok-pending.ensures
    c.in_ok-print_verdict.ensures.ok c.verdict.ensures)
