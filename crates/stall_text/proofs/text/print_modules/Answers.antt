use Rattle.std.proofs.Common.{◌∙◌, ◌<◌, ap, ◌++◌, length, arith}
use Rattle.stall_text.specs.{Plan, text_of_lines, polling_lines}
use Rattle.stall_text.proofs.Whole.{have_polls, module_more}
use Rattle.stall_text.proofs.text.print_modules.Goals as goal

pub print_polling-requires-clause-polls : goal.print_polling-requires-clause-polls
print_polling-requires-clause-polls c =
    have_polls c.args.core.now.plan c.plan.result.now c.args.polls.now c.requires.polls c.plan.ensures

pub loop-owner-preserved : goal.loop-owner-preserved
loop-owner-preserved c =
    let i = c.loop-owner.owner in
    let p = c.args.core.now.plan in
    let inside : i < length p.design.modules = let l = c.loop-owner-test.true in let n = c.modules-owner-end.ensures.count in omega arith in
    module_more p c.modules-owner-end.ensures.fits i inside c.args.polls.now c.requires.polls c.args.text.now c.loop-owner.text
    c.print_module.new.text c.print_ports.new.text c.print_polling.new.text c.loop-owner.invariant c.in_ok-print_module.ensures
    c.in_ok-print_ports.ensures
    (c.in_ok-print_polling.ensures
    ∙ ap (λ (q : Plan). c.print_ports.new.text ++ text_of_lines (polling_lines q.design i c.args.polls.now)) c.plan.ensures)
