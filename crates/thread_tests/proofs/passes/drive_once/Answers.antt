use Rattle.std.proofs.Common.{subst, sym}
use Rattle.thread_tests.specs.{OutIs, IsDeskBurst, module_of, module_view}
use Rattle.thread_tests.proofs.passes.drive_once.Goals as goal

pub return_desk-pass-requires-clause-burst : goal.return_desk-pass-requires-clause-burst
return_desk-pass-requires-clause-burst g c =
    let p = c.borrow_desk-pass.result.0 in
    let out = subst (λ d. OutIs (module_of c.args.pass) (module_view p) d) c.in-Run.is c.borrow_desk-pass.ensures.out in
    subst (λ n. IsDeskBurst n (module_view p).seen c.work-burst.result) (sym c.borrow_desk-pass.ensures.own.1)
    (c.in-Run.task, out.1, c.work-burst.ensures)
