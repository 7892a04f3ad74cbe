use Rattle.std.proofs.Common.{◌≡◌, ◌∙◌, sym, subst, refl, ap, arith, ℕ, ◌+◌, List}
use Rattle.whole_answer.specs.{Plan, Report, with_depth, FitsEngine, report, report_with, BlockCode, AreCodes, first_counts, next_counts}
use Rattle.whole_answer.specs.{ReportsTold, IsGoing, told_of, ending_of, is_done, Ending}
use Rattle.std.specs.Prelude.{if◌then◌else◌}
use Rattle.sim_io.proofs.Pending.{prefix_none}
use Rattle.whole_answer.proofs.Reports.{begins, goes_on, still_fits, next_plan, ends, edit_at, fits_there, first_is, more_is, first_plan}
use Rattle.whole_answer.proofs.Reports.{stops, stops_first, stops_inside, same_verdict, report_in, part_in}
use Rattle.flow_design.proofs.Failing.{on_err}
use Rattle.whole_answer.proofs.job.clock_job.Goals as goal

-- an edit of a depth leaves the modules, and so their code
codes_stay : (p : Plan) (codes : List (List BlockCode)) (channel depth : ℕ) → AreCodes p codes → AreCodes (with_depth p channel depth) codes
codes_stay p codes channel depth k = record { count = k.count; each = k.each }

pub loop-edit-init : goal.loop-edit-init
loop-edit-init g c =
    let events = c.args.events in
    let p = c.args.plan in
    let outcome = c.in_ok-outcome.ensures in
    let answers = ap (λ (r : Report). r.answers) outcome ∙ c.reports_without_events.ensures.answers events p in
    let ending : c.of-ending.result ≡ ending_of (report p).verdict = c.of-ending.ensures
    ∙ same_verdict events p p c.in_ok-outcome.outcome c.reports_without_events.ensures.verdict outcome refl in
    let told = first_is p c.of-ending.result c.new-count.result ending (c.new-count.ensures ∙ ap first_counts answers) in
    let first = g.K.Sink.held c.args.sink.now in
    let held = g.K.Sink.held c.write_report.new.sink in
    record {
      going = subst (λ (t : ReportsTold). IsGoing events p c.args.edits.now 0 p t first held) (sym told)
          (begins events p c.args.edits.now c.edits_in_order.ensures.none c.fits.ensures
          first held (subst (report_in first held 0 events) c.plan.ensures.plan c.in_ok-write_report.ensures.ok));
      number = refl;
      codes = subst (AreCodes p) (sym c.as_slice-codes.ensures) c.in_ok-codes.ensures;
      faults = c.in_ok-write_report.ensures.cause.later;
    }

pub edit-requires : goal.edit-requires
edit-requires g c =
    let edits = c.args.edits.now in
    let i = c.loop-edit.edit-index in
    let fit = fits_there c.args.plan edits i c.loop-edit-test.true c.requires in
    still_fits c.args.events c.args.plan edits i c.loop-edit.plan (edit_at edits i) c.loop-edit.invariant.going.plan fit

pub clock_report-requires-in-loop-edit : goal.clock_report-requires-in-loop-edit
clock_report-requires-in-loop-edit g c =
    subst (λ (q : Plan). AreCodes q c.as_slice-codes.result.now) (sym c.edit.ensures)
    (codes_stay c.loop-edit.plan c.as_slice-codes.result.now _ _ c.loop-edit.invariant.codes)

pub write_report-requires-clause-fits : goal.write_report-requires-clause-fits
write_report-requires-clause-fits g c = subst FitsEngine (sym c.plan.ensures.plan) c.plan.ensures.fits

pub write_report-requires-clause-report : goal.write_report-requires-clause-report
write_report-requires-clause-report g c = c.in_ok-outcome.ensures ∙ ap (report_with c.args.events) (sym c.plan.ensures.plan)

pub write_report-requires-in-loop-edit-clause-fits : goal.write_report-requires-in-loop-edit-clause-fits
write_report-requires-in-loop-edit-clause-fits g c =
    subst FitsEngine (sym c.plan-in-loop-edit.ensures.plan) c.plan-in-loop-edit.ensures.fits

pub write_report-requires-in-loop-edit-clause-report : goal.write_report-requires-in-loop-edit-clause-report
write_report-requires-in-loop-edit-clause-report g c =
    c.in_ok-outcome-2.ensures ∙ ap (report_with c.args.events) (sym c.plan-in-loop-edit.ensures.plan)

pub loop-edit-preserved : goal.loop-edit-preserved
loop-edit-preserved g c =
    let events = c.args.events in
    let p = c.args.plan in
    let edits = c.args.edits.now in
    let i = c.loop-edit.edit-index in
    let plan = c.loop-edit.plan in
    let next = c.edit.new.self in
    let going = c.loop-edit.invariant.going in
    let fit = fits_there p edits i c.loop-edit-test.true c.requires in
    let is = c.edit.ensures ∙ next_plan events p edits c.edits_in_order.ensures.one_more i plan (edit_at edits i)
    (record { channel = 0; depth = 0 }) going.plan c.loop-edit-test.true refl fit.entry in
    let number : c.loop-edit.number + 1 ≡ i + 1 = ap (λ n. n + 1) c.loop-edit.invariant.number in
    let outcome = c.in_ok-outcome-2.ensures in
    let first = g.K.Sink.held c.args.sink.now in
    let held = g.K.Sink.held c.loop-edit.sink in
    let last = g.K.Sink.held c.write_report-in-loop-edit.new.sink in
    let written = subst (λ (k : ℕ). report_in held last k events next) number
    (subst (report_in held last (c.loop-edit.number + 1) events) c.plan-in-loop-edit.ensures.plan c.in_ok-write_report-2.ensures.ok) in
    let answers = ap (λ (r : Report). r.answers) outcome ∙ c.reports_without_events.ensures.answers events next in
    let verdict : ending_of c.in_ok-outcome-2.outcome.verdict ≡ ending_of (report next).verdict
    = same_verdict events next next c.in_ok-outcome-2.outcome c.reports_without_events.ensures.verdict outcome refl in
    let ending = c.unless_done-ending.ensures
    ∙ ap (λ (v : Ending). if is_done c.loop-edit.ending then v else c.loop-edit.ending) (c.of.ensures ∙ verdict) in
    let told = more_is next c.loop-edit.ending c.unless_done-ending.result c.loop-edit.count c.add.new.self ending
    (c.add.ensures ∙ ap (next_counts c.loop-edit.count) answers) in
    let before = still_fits events p edits i plan (edit_at edits i) going.plan fit in
    let fits = subst FitsEngine (sym c.edit.ensures) (c.edited_plans_agree.ensures.fits plan going.fits (edit_at edits i) before) in
    record {
      going = subst (λ (t : ReportsTold). IsGoing events p edits (i + 1) next t first last) (sym told)
          (goes_on events p edits i plan next (told_of c.loop-edit.ending c.loop-edit.count) first held last going is fits
          written);
      number = number;
      codes = subst (λ (q : Plan). AreCodes q c.as_slice-codes.result.now) (sym c.edit.ensures)
          (codes_stay plan c.as_slice-codes.result.now _ _ c.loop-edit.invariant.codes);
      faults = omega (arith, c.loop-edit.invariant.faults, c.in_ok-write_report-2.ensures.cause.later);
    }

pub returns-in_err-codes-clause-prefix : goal.returns-in_err-codes-clause-prefix
returns-in_err-codes-clause-prefix g c = on_err _ (prefix_none _ _)

pub returns-in_err-outcome-clause-prefix : goal.returns-in_err-outcome-clause-prefix
returns-in_err-outcome-clause-prefix g c = on_err _ (prefix_none _ _)

pub returns-in_err-write_report-clause-prefix : goal.returns-in_err-write_report-clause-prefix
returns-in_err-write_report-clause-prefix g c =
    on_err _ (stops_first c.args.events c.args.plan c.args.edits.now _ _
    (subst (part_in (g.K.Sink.held c.args.sink.now) (g.K.Sink.held c.write_report.new.sink) 0 c.args.events) c.plan.ensures.plan
    c.in_err-write_report.ensures.err)
    (first_plan c.args.events c.args.plan c.args.edits.now c.edits_in_order.ensures.none))

pub returns-in_err-outcome-2-clause-prefix : goal.returns-in_err-outcome-2-clause-prefix
returns-in_err-outcome-2-clause-prefix g c =
    on_err _ (stops c.args.events c.args.plan c.args.edits.now c.loop-edit.edit-index _ _ _ _ c.loop-edit.invariant.going
    (omega (arith, c.loop-edit-test.true)))

pub returns-in_err-write_report-2-clause-prefix : goal.returns-in_err-write_report-2-clause-prefix
returns-in_err-write_report-2-clause-prefix g c =
    let events = c.args.events in
    let p = c.args.plan in
    let edits = c.args.edits.now in
    let i = c.loop-edit.edit-index in
    let plan = c.loop-edit.plan in
    let next = c.edit.new.self in
    let going = c.loop-edit.invariant.going in
    let fit = fits_there p edits i c.loop-edit-test.true c.requires in
    let is = c.edit.ensures ∙ next_plan events p edits c.edits_in_order.ensures.one_more i plan (edit_at edits i)
    (record { channel = 0; depth = 0 }) going.plan c.loop-edit-test.true refl fit.entry in
    let number : c.loop-edit.number + 1 ≡ i + 1 = ap (λ n. n + 1) c.loop-edit.invariant.number in
    on_err _ (stops_inside events p edits i plan next _ _ _ _ going c.loop-edit-test.true is
    (subst (λ (k : ℕ). part_in (g.K.Sink.held c.loop-edit.sink) (g.K.Sink.held c.write_report-in-loop-edit.new.sink) k events next) number
    (subst (part_in (g.K.Sink.held c.loop-edit.sink) (g.K.Sink.held c.write_report-in-loop-edit.new.sink) (c.loop-edit.number + 1) events)
    c.plan-in-loop-edit.ensures.plan c.in_err-write_report-2.ensures.err)))

pub returns-in_err-last_line-clause-prefix : goal.returns-in_err-last_line-clause-prefix
returns-in_err-last_line-clause-prefix g c =
    on_err _ (stops c.args.events c.args.plan c.args.edits.now c.loop-edit.edit-index _ _ _ _ c.loop-edit.invariant.going
    (omega (arith, c.loop-edit.auto.edit-index-end)))

pub returns-clause-rest : goal.returns-clause-rest
returns-clause-rest g c =
    ends c.args.events c.args.plan c.args.edits.now c.loop-edit.edit-index c.loop-edit.plan
    (told_of c.loop-edit.ending c.loop-edit.count) _ _ c.in_ok-last_line.field-0 c.loop-edit.invariant.going
    (omega (arith, c.loop-edit.auto.edit-index-end))
    c.in_ok-last_line.ensures.text c.in_ok-last_line.ensures.ending
