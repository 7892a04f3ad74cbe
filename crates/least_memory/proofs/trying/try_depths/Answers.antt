use Rattle.std.proofs.Common.{sym, ◌∙◌, ap}
use Rattle.least_memory.specs.{Plan, CoreView, with_depths}
use Rattle.least_depths.proofs.Depths.{test_done_by}
use Rattle.least_memory.proofs.Shown.{deeper_needed, run_told}
use Rattle.least_memory.proofs.trying.try_depths.Goals as goal

pub returns-then-is_done_by : goal.returns-then-is_done_by
returns-then-is_done_by g c =
    let p = c.args.core.now.plan in
    let ds = c.args.depths.now in
    let own = c.in_ok-plan.ensures ∙ c.plan.ensures in
    let given = ap (λ (q : Plan). with_depths q c.in_ok-plan-2.field-0) own ∙ ap (with_depths p) c.in_ok-plan-2.ensures in
    record {
      told = run_told p (with_depths c.in_ok-plan.plan c.in_ok-plan-2.field-0) c.new.result.plan ds c.verdict-verdict.result given
          (ap (λ (v : CoreView). v.plan) c.new.ensures ∙ (c.in_ok-run.ensures.plan ∙ c.new-own.ensures)) c.verdict-verdict.ensures;
      done = test_done_by c.args.clock c.verdict-verdict.result (sym c.is_done_by.ensures ∙ c.if-is_done_by.true);
    }

pub returns : goal.returns
returns g c =
    let p = c.args.core.now.plan in
    let ds = c.args.depths.now in
    let own = c.in_ok-plan.ensures ∙ c.plan.ensures in
    let given = ap (λ (q : Plan). with_depths q c.in_ok-plan-2.field-0) own ∙ ap (with_depths p) c.in_ok-plan-2.ensures in
    deeper_needed p c.agrees.ensures.fits c.requires.quiet c.args.clock ds c.requires.depths c.in_ok-deeper_ones.field-0
    c.in_ok-deeper_ones.ensures c.verdict-verdict.result
    (run_told p (with_depths c.in_ok-plan.plan c.in_ok-plan-2.field-0) c.new.result.plan ds c.verdict-verdict.result given
    (ap (λ (v : CoreView). v.plan) c.new.ensures ∙ (c.in_ok-run.ensures.plan ∙ c.new-own.ensures)) c.verdict-verdict.ensures)
    (sym c.is_done_by.ensures ∙ c.if-is_done_by.false)
