use Rattle.std.proofs.Common.{◌∙◌, ap, ap₂, sym, subst, arith, ℕ, ◌<◌, ◌^◌, List, ◌++◌, length}
use Rattle.std.specs.Prelude.{All, sum_by}
use Rattle.path_text.specs.{Plan, Verdict, FitsEngine, clock_of, verdict, Span, HasSpans, Polled, count_lines, link_lines, AreAccesses}
use Rattle.path_text.specs.{links_in, polled_path, polls_along, link_clocks, clocks_waiting, AreLinksOf, ArePolledIn, Link, line}
use Rattle.path_text.specs.{text_of_lines, verdict_tokens}
use Rattle.path_text.proofs.Told.{links_told, polls_told, told_few, told_links_are, told_log, told_polls_are}
use Rattle.path_text.proofs.Whole.{verdict_is, few_modules, few_channels, movers_inside, whole_path}
use Rattle.path_text.proofs.text.path_text.Goals as goal

pub all_spans-requires-clause-clock : goal.all_spans-requires-clause-clock
all_spans-requires-clause-clock c =
    c.clock.ensures ∙ ap clock_of (verdict_is c.args.core.now.plan c.in_ok-report.report c.in_ok-report.ensures)

pub find_path-requires-clause-fits : goal.find_path-requires-clause-fits
find_path-requires-clause-fits c = subst FitsEngine (sym c.plan.ensures) c.modules-modules.ensures.fits

pub find_path-requires-clause-spans : goal.find_path-requires-clause-spans
find_path-requires-clause-spans c =
    let p = c.args.core.now.plan in
    let clock = c.clock.ensures ∙ ap clock_of (verdict_is p c.in_ok-report.report c.in_ok-report.ensures) in
    subst (λ (q : Plan). HasSpans q (clock_of (verdict q)) c.as_slice.result.now) (sym c.plan.ensures)
    (subst (λ (ss : List (List Span)). HasSpans p (clock_of (verdict p)) ss) (sym c.as_slice.ensures)
    (subst (λ (k : ℕ). HasSpans p k c.in_ok-spans.spans) clock c.in_ok-spans.ensures))

pub find_path-requires-clause-log : goal.find_path-requires-clause-log
find_path-requires-clause-log c =
    let p = c.args.core.now.plan in
    subst (λ (q : Plan). AreAccesses q c.as_slice-2.result.now) (sym c.plan.ensures)
    (told_log p c.args.polls c.as_slice-2.result.now (c.as_slice-2.ensures ∙ c.in_ok-log.ensures))

pub print_counts-requires-clause-modules : goal.print_counts-requires-clause-modules
print_counts-requires-clause-modules c =
    subst (λ (q : Plan). length q.design.modules < 2 ^ 32) (sym c.plan-2.ensures)
    (few_modules c.args.core.now.plan c.modules-modules.ensures.fits)

pub print_counts-requires-clause-channels : goal.print_counts-requires-clause-channels
print_counts-requires-clause-channels c =
    subst (λ (q : Plan). length q.design.channels < 2 ^ 32) (sym c.plan-2.ensures)
    (few_channels c.args.core.now.plan c.modules-modules.ensures.fits)

pub print_counts-requires-clause-links : goal.print_counts-requires-clause-links
print_counts-requires-clause-links c =
    let p = c.args.core.now.plan in
    let links = c.in_ok-path.ensures.links ∙ (ap (λ (q : Plan). links_in (polled_path q c.as_slice-2.result.now (clock_of (verdict q))))
    c.plan.ensures ∙ links_told p c.args.polls c.as_slice-2.result.now (c.as_slice-2.ensures ∙ c.in_ok-log.ensures)) in
    subst (λ (q : Plan). AreLinksOf q.design c.in_ok-path.path.links) (sym c.plan-2.ensures)
    (subst (AreLinksOf p.design) (sym links) (told_links_are p c.modules-modules.ensures.fits c.args.polls))

pub print_counts-requires-clause-polls : goal.print_counts-requires-clause-polls
print_counts-requires-clause-polls c =
    let p = c.args.core.now.plan in
    let polls = c.in_ok-path.ensures.polls ∙ (ap (λ (q : Plan). polls_along (polled_path q c.as_slice-2.result.now (clock_of (verdict q))))
    c.plan.ensures ∙ polls_told p c.args.polls c.as_slice-2.result.now (c.as_slice-2.ensures ∙ c.in_ok-log.ensures)) in
    subst (λ (q : Plan). ArePolledIn q.design c.in_ok-path.path.polls) (sym c.plan-2.ensures)
    (subst (ArePolledIn p.design) (sym polls) (told_polls_are p c.modules-modules.ensures.fits c.args.polls))

pub print_counts-requires-clause-spent : goal.print_counts-requires-clause-spent
print_counts-requires-clause-spent c =
    let p = c.args.core.now.plan in
    let links = ap (sum_by link_clocks) (c.in_ok-path.ensures.links
    ∙ (ap (λ (q : Plan). links_in (polled_path q c.as_slice-2.result.now (clock_of (verdict q)))) c.plan.ensures
    ∙ links_told p c.args.polls c.as_slice-2.result.now (c.as_slice-2.ensures ∙ c.in_ok-log.ensures))) in
    let few = (told_few p c.modules-modules.ensures.fits c.args.polls).0 in
    let clock = c.clock.ensures ∙ ap clock_of (verdict_is p c.in_ok-report.report c.in_ok-report.ensures) in
    let fits = c.clock.type_inv in
    omega arith

pub print_counts-requires-clause-waited : goal.print_counts-requires-clause-waited
print_counts-requires-clause-waited c =
    let p = c.args.core.now.plan in
    let polls = ap (sum_by clocks_waiting) (c.in_ok-path.ensures.polls
    ∙ (ap (λ (q : Plan). polls_along (polled_path q c.as_slice-2.result.now (clock_of (verdict q)))) c.plan.ensures
    ∙ polls_told p c.args.polls c.as_slice-2.result.now (c.as_slice-2.ensures ∙ c.in_ok-log.ensures))) in
    let few = (told_few p c.modules-modules.ensures.fits c.args.polls).1 in
    let clock = c.clock.ensures ∙ ap clock_of (verdict_is p c.in_ok-report.report c.in_ok-report.ensures) in
    let fits = c.clock.type_inv in
    omega arith

pub print_links-requires : goal.print_links-requires
print_links-requires c =
    let p = c.args.core.now.plan in
    let links = c.as_slice-3.ensures ∙ (c.in_ok-path.ensures.links
    ∙ (ap (λ (q : Plan). links_in (polled_path q c.as_slice-2.result.now (clock_of (verdict q)))) c.plan.ensures
    ∙ links_told p c.args.polls c.as_slice-2.result.now (c.as_slice-2.ensures ∙ c.in_ok-log.ensures))) in
    subst (λ (q : Plan). All (λ (l : Link). l.module < length q.design.modules) c.as_slice-3.result.now) (sym c.plan-3.ensures)
    (movers_inside p.design c.as_slice-3.result.now
    (subst (AreLinksOf p.design) (sym links) (told_links_are p c.modules-modules.ensures.fits c.args.polls)))

pub returns : goal.returns
returns c =
    let p = c.args.core.now.plan in
    let log = c.as_slice-2.result.now in
    let same = c.as_slice-2.ensures ∙ c.in_ok-log.ensures in
    let links = c.in_ok-path.ensures.links
    ∙ (ap (λ (q : Plan). links_in (polled_path q log (clock_of (verdict q)))) c.plan.ensures ∙ links_told p c.args.polls log same) in
    let polls = c.in_ok-path.ensures.polls
    ∙ (ap (λ (q : Plan). polls_along (polled_path q log (clock_of (verdict q)))) c.plan.ensures ∙ polls_told p c.args.polls log same) in
    whole_path p c.args.events c.args.polls c.in_ok-text.text c.print_verdict.new.text c.print_counts.new.text c.print_links.new.text
    c.in_ok-text.ensures
    (c.in_ok-print_verdict.ensures.ok
    ∙ ap (λ (v : Verdict). c.in_ok-text.text ++ line (verdict_tokens v)) (verdict_is p c.in_ok-report.report c.in_ok-report.ensures))
    (c.in_ok-print_counts.ensures
    ∙ (ap (λ (q : Plan). c.print_verdict.new.text ++ text_of_lines (count_lines q.design c.in_ok-path.path.links c.in_ok-path.path.polls))
    c.plan-2.ensures
    ∙ ap₂ (λ (ls : List Link) (qs : List Polled). c.print_verdict.new.text ++ text_of_lines (count_lines p.design ls qs)) links polls))
    (c.in_ok-print_links.ensures
    ∙ ap₂ (λ (q : Plan) (ls : List Link). c.print_counts.new.text ++ text_of_lines (link_lines q.design c.args.events ls)) c.plan-3.ensures
    (c.as_slice-3.ensures ∙ links))
