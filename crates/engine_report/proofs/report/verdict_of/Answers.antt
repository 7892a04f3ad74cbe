use Rattle.engine_report.specs.{design, core_of, held_in}
use Rattle.engine_report.proofs.Verdicts.{verdict_read}
use Rattle.engine_report.proofs.report.verdict_of.Goals as goal

pub returns : goal.returns
returns c =
    let p = c.args.plan.now in
    let f = c.requires in
    let h = held_in c.args.engine.now in
    let x = core_of (design p) h in
    verdict_read p h c.args.engine.now.ends.items f (c.every_report.ensures.agreed p f.fits x f.agreed f.final)
    (c.steps_in_order.ensures.history p f.fits p.cycles x f.agreed f.final) c.verdict.result c.verdict.ensures
