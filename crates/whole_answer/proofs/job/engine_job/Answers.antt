use Rattle.std.proofs.Common.{◌≡◌, ◌∙◌, sym, subst, refl, ap, arith, ℕ, ◌+◌}
use Rattle.std.specs.Prelude.{if◌then◌else◌}
use Rattle.whole_answer.specs.{Plan, FitsEngine, report, next_counts, SessionView, opening_session, with_edit, line, runs_tokens}
use Rattle.whole_answer.specs.{ReportsTold, IsGoing, told_of, ending_of, is_done, Ending}
use Rattle.sim_io.proofs.Pending.{prefix_none}
use Rattle.whole_answer.proofs.Reports.{begins, goes_on, still_fits, next_plan, ends, edit_at, fits_there, first_is, more_is, first_plan}
use Rattle.whole_answer.proofs.Reports.{stops, stops_first, stops_inside, same_verdict, report_in, part_in}
use Rattle.flow_design.proofs.Failing.{on_err}
use Rattle.whole_answer.proofs.job.engine_job.Goals as goal

pub loop-edit-init : goal.loop-edit-init
loop-edit-init g c =
    let events = c.args.events in
    let p = c.args.plan in
    let s = c.in_ok-session.session in
    let begun : s ≡ opening_session p = c.in_ok-session.ensures.opened in
    let plan : s.plan ≡ p = ap (λ (v : SessionView). v.plan) begun in
    let first = g.K.Sink.held c.args.sink.now in
    let held = g.K.Sink.held c.write_report.new.sink in
    let ending : c.of-ending.result ≡ ending_of (report p).verdict = c.of-ending.ensures
    ∙ same_verdict events p s.plan c.in_ok-outcome.outcome c.reports_without_events.ensures.verdict c.in_ok-outcome.ensures plan in
    let told = first_is p c.of-ending.result s.count ending (ap (λ (v : SessionView). v.count) begun) in
    let written = subst (report_in first held 0 events) (c.plan.ensures ∙ plan) c.in_ok-write_report.ensures.ok in
    let going = begins events p c.args.edits.now c.edits_in_order.ensures.none c.fits.ensures
    first held written in
    record {
      going = subst (λ (q : Plan). IsGoing events p c.args.edits.now 0 q (told_of c.of-ending.result s.count) first held) (sym plan)
          (subst (λ (t : ReportsTold). IsGoing events p c.args.edits.now 0 p t first held) (sym told) going);
      live = ap (λ (v : SessionView). v.live) begun;
      number = refl;
      faults = c.in_ok-write_report.ensures.cause.later;
    }

pub edit-requires-clause-fits : goal.edit-requires-clause-fits
edit-requires-clause-fits g c = λ κs outlives.
    let edits = c.args.edits.now in
    let i = c.loop-edit.edit-index in
    let fit = fits_there c.args.plan edits i c.loop-edit-test.true c.requires in
    still_fits c.args.events c.args.plan edits i c.loop-edit.session.plan (edit_at edits i) c.loop-edit.invariant.going.plan fit

pub write_report-requires-in-loop-edit-clause-fits : goal.write_report-requires-in-loop-edit-clause-fits
write_report-requires-in-loop-edit-clause-fits g c =
    let edits = c.args.edits.now in
    let i = c.loop-edit.edit-index in
    let s = c.loop-edit.session in
    let fit = fits_there c.args.plan edits i c.loop-edit-test.true c.requires in
    let before = still_fits c.args.events c.args.plan edits i s.plan (edit_at edits i) c.loop-edit.invariant.going.plan fit in
    let edited : c.edit.new.self ≡ with_edit s (edit_at edits i) = c.in_ok-edit.ensures.edited in
    subst FitsEngine (sym (c.plan-in-loop-edit.ensures ∙ ap (λ (v : SessionView). v.plan) edited))
    (c.edited_plans_agree.ensures.fits s.plan c.loop-edit.invariant.going.fits (edit_at edits i) before)

pub loop-edit-preserved : goal.loop-edit-preserved
loop-edit-preserved g c =
    let events = c.args.events in
    let p = c.args.plan in
    let edits = c.args.edits.now in
    let i = c.loop-edit.edit-index in
    let s = c.loop-edit.session in
    let t = c.edit.new.self in
    let going = c.loop-edit.invariant.going in
    let edited : t ≡ with_edit s (edit_at edits i) = c.in_ok-edit.ensures.edited in
    let plan = ap (λ (v : SessionView). v.plan) edited in
    let fit = fits_there p edits i c.loop-edit-test.true c.requires in
    let is = plan ∙ next_plan events p edits c.edits_in_order.ensures.one_more i s.plan (edit_at edits i)
    (record { channel = 0; depth = 0 }) going.plan c.loop-edit-test.true refl fit.entry in
    let number : c.loop-edit.number + 1 ≡ i + 1 = ap (λ n. n + 1) c.loop-edit.invariant.number in
    let first = g.K.Sink.held c.args.sink.now in
    let held = g.K.Sink.held c.loop-edit.sink in
    let last = g.K.Sink.held c.write_report-in-loop-edit.new.sink in
    let written = subst (λ (k : ℕ). report_in held last k events t.plan) number
    (subst (report_in held last (c.loop-edit.number + 1) events) c.plan-in-loop-edit.ensures c.in_ok-write_report-2.ensures.ok) in
    let verdict : ending_of c.in_ok-outcome-2.outcome.verdict ≡ ending_of (report t.plan).verdict
    = same_verdict events t.plan t.plan c.in_ok-outcome-2.outcome c.reports_without_events.ensures.verdict c.in_ok-outcome-2.ensures refl in
    let ending = c.unless_done-ending.ensures
    ∙ ap (λ (v : Ending). if is_done c.loop-edit.ending then v else c.loop-edit.ending) (c.of.ensures ∙ verdict) in
    let count = ap (λ (v : SessionView). v.count) edited ∙ ap (λ (q : Plan). next_counts s.count (report q).answers) (sym plan) in
    let told = more_is t.plan c.loop-edit.ending c.unless_done-ending.result s.count t.count ending count in
    let before = still_fits events p edits i s.plan (edit_at edits i) going.plan fit in
    let fits = subst FitsEngine (sym plan) (c.edited_plans_agree.ensures.fits s.plan going.fits (edit_at edits i) before) in
    record {
      going = subst (λ (v : ReportsTold). IsGoing events p edits (i + 1) t.plan v first last) (sym told)
          (goes_on events p edits i s.plan t.plan (told_of c.loop-edit.ending s.count) first held last going is fits
          written);
      live = ap (λ (v : SessionView). v.live) edited;
      number = number;
      faults = omega (arith, c.loop-edit.invariant.faults, c.in_ok-write_report-2.ensures.cause.later);
    }

pub returns-in_err-session-clause-prefix : goal.returns-in_err-session-clause-prefix
returns-in_err-session-clause-prefix g c = on_err _ (prefix_none _ _)

pub returns-in_err-outcome-clause-prefix : goal.returns-in_err-outcome-clause-prefix
returns-in_err-outcome-clause-prefix g c = on_err _ (prefix_none _ _)

pub returns-in_err-write_report-clause-prefix : goal.returns-in_err-write_report-clause-prefix
returns-in_err-write_report-clause-prefix g c =
    let p = c.args.plan in
    let plan : c.in_ok-session.session.plan ≡ p = ap (λ (v : SessionView). v.plan) c.in_ok-session.ensures.opened in
    on_err _ (stops_first c.args.events p c.args.edits.now _ _
    (subst (part_in (g.K.Sink.held c.args.sink.now) (g.K.Sink.held c.write_report.new.sink) 0 c.args.events) (c.plan.ensures ∙ plan)
    c.in_err-write_report.ensures.err)
    (first_plan c.args.events p c.args.edits.now c.edits_in_order.ensures.none))

pub returns-in_err-edit-clause-prefix : goal.returns-in_err-edit-clause-prefix
returns-in_err-edit-clause-prefix g c =
    on_err _ (stops c.args.events c.args.plan c.args.edits.now c.loop-edit.edit-index _ _ _ _ c.loop-edit.invariant.going
    (omega (arith, c.loop-edit-test.true)))

pub returns-in_err-outcome-2-clause-prefix : goal.returns-in_err-outcome-2-clause-prefix
returns-in_err-outcome-2-clause-prefix g c =
    on_err _ (stops c.args.events c.args.plan c.args.edits.now c.loop-edit.edit-index _ _ _ _ c.loop-edit.invariant.going
    (omega (arith, c.loop-edit-test.true)))

pub returns-in_err-write_report-2-clause-prefix : goal.returns-in_err-write_report-2-clause-prefix
returns-in_err-write_report-2-clause-prefix g c =
    let events = c.args.events in
    let p = c.args.plan in
    let edits = c.args.edits.now in
    let i = c.loop-edit.edit-index in
    let s = c.loop-edit.session in
    let t = c.edit.new.self in
    let going = c.loop-edit.invariant.going in
    let edited : t ≡ with_edit s (edit_at edits i) = c.in_ok-edit.ensures.edited in
    let fit = fits_there p edits i c.loop-edit-test.true c.requires in
    let is = ap (λ (v : SessionView). v.plan) edited ∙ next_plan events p edits c.edits_in_order.ensures.one_more i s.plan (edit_at edits i)
    (record { channel = 0; depth = 0 }) going.plan c.loop-edit-test.true refl fit.entry in
    let number : c.loop-edit.number + 1 ≡ i + 1 = ap (λ n. n + 1) c.loop-edit.invariant.number in
    on_err _ (stops_inside events p edits i s.plan t.plan _ _ _ _ going c.loop-edit-test.true is
    (subst (λ (k : ℕ). part_in (g.K.Sink.held c.loop-edit.sink) (g.K.Sink.held c.write_report-in-loop-edit.new.sink) k events t.plan) number
    (subst (part_in (g.K.Sink.held c.loop-edit.sink) (g.K.Sink.held c.write_report-in-loop-edit.new.sink) (c.loop-edit.number + 1) events)
    c.plan-in-loop-edit.ensures c.in_err-write_report-2.ensures.err)))

pub returns-in_err-last_line-clause-prefix : goal.returns-in_err-last_line-clause-prefix
returns-in_err-last_line-clause-prefix g c =
    on_err _ (stops c.args.events c.args.plan c.args.edits.now c.loop-edit.edit-index _ _ _ _ c.loop-edit.invariant.going
    (omega (arith, c.loop-edit.auto.edit-index-end)))

pub returns-clause-rest : goal.returns-clause-rest
returns-clause-rest g c =
    ends c.args.events c.args.plan c.args.edits.now c.loop-edit.edit-index c.loop-edit.session.plan
    (told_of c.loop-edit.ending c.loop-edit.session.count) _ _ c.in_ok-last_line.field-0 c.loop-edit.invariant.going
    (omega (arith, c.loop-edit.auto.edit-index-end))
    (c.in_ok-last_line.ensures.text ∙ ap (λ (n : ℕ). line (runs_tokens n)) c.runs.ensures) c.in_ok-last_line.ensures.ending
