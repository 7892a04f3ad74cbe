use Rattle.engine_report.specs.{design, core_of, held_in}
use Rattle.engine_report.proofs.Whole.{report_is}
use Rattle.engine_report.proofs.report.report_of.Goals as goal

pub returns : goal.returns
returns c =
    let p = c.args.plan.now in
    let f = c.requires in
    let h = held_in c.args.engine.now in
    let x = core_of (design p) h in
    report_is p h c.args.engine.now.ends.items f (c.every_report.ensures.agreed p f.fits x f.agreed f.final)
    (c.steps_in_order.ensures.sorted p p.cycles x f.agreed)
    (c.steps_in_order.ensures.history p f.fits p.cycles x f.agreed f.final)
    (record {
      verdict = c.verdict-verdict.result;
      outputs = c.in_ok-outputs.field-0;
      held = c.in_ok-held_with.field-0;
      events = c.in_ok-events_if.field-0;
      answers = c.in_ok-answers.field-0;
    })
    (record {
      verdict = c.verdict-verdict.ensures;
      outputs = c.in_ok-outputs.ensures;
      held = c.in_ok-held_with.ensures;
      answers = c.in_ok-answers.ensures;
    })
    c.args.with_events c.in_ok-events_if.ensures.asked c.in_ok-events_if.ensures.none
