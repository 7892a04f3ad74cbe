use Rattle.std.proofs.Common.{◌≡◌, ◌∙◌, ◌<◌, ◌^◌, ap, sym, refl, subst, ℕ, List, length, ◌++◌}
use Rattle.trace_text.specs.{Plan, FitsEngine, names_of, opening_text, closing_text, joined_lines, further, trace_text}
use Rattle.flow_design.proofs.Failing.{on_err}
use Rattle.sim_io.proofs.Pending.{prefix_as, prefix_longer, prefix_none, told_as, told_kept, told_more, told_prefix, told_prefix_more}
use Rattle.trace_text.proofs.Whole.{all_fills, all_spans, few_modules, whole_trace}
use Rattle.trace_text.proofs.trace.trace_text.Goals as goal

-- the whole text, by what follows the names
whole : (p q : Plan) → FitsEngine p → (a b : List ℕ) → a ≡ opening_text → b ≡ a ++ joined_lines (names_of q.design) → q ≡ p
    → ((b ++ further (all_spans p)) ++ further (all_fills p)) ++ closing_text ≡ trace_text p
whole p q fits a b opened named same =
    whole_trace p fits a b _ _ _ opened (named ∙ ap (λ (x : Plan). a ++ joined_lines (names_of x.design)) same) refl refl refl

pub print_names-requires : goal.print_names-requires
print_names-requires g c =
    subst (λ (p : Plan). length p.design.modules < 2 ^ 32) (sym c.plan.ensures)
    (few_modules c.args.core.now.plan c.agrees.ensures.fits)

pub returns-in_err-pending-clause-prefix : goal.returns-in_err-pending-clause-prefix
returns-in_err-pending-clause-prefix g c = on_err _ (prefix_none _ _)

pub returns-in_err-print_names-clause-prefix : goal.returns-in_err-print_names-clause-prefix
returns-in_err-print_names-clause-prefix g c = on_err _ (prefix_none _ _)

pub returns-in_err-write_tracks-clause-prefix : goal.returns-in_err-write_tracks-clause-prefix
returns-in_err-write_tracks-clause-prefix g c =
    let p = c.args.core.now.plan in
    on_err _ (prefix_as _ _ _ _
    (prefix_longer _ _ _ closing_text (prefix_longer _ _ _ (further (all_fills p)) c.in_err-write_tracks.ensures.err))
    (whole p c.plan.result.now c.agrees.ensures.fits c.in_ok-pending.pending _ c.in_ok-pending.ensures
    c.in_ok-print_names.ensures c.plan.ensures))

pub returns-in_err-write_counters-clause-prefix : goal.returns-in_err-write_counters-clause-prefix
returns-in_err-write_counters-clause-prefix g c =
    let p = c.args.core.now.plan in
    on_err _ (prefix_as _ _ _ _
    (told_prefix_more _ _ _ _ _ _ closing_text c.in_ok-write_tracks.ensures.ok c.in_err-write_counters.ensures.err)
    (whole p c.plan.result.now c.agrees.ensures.fits c.in_ok-pending.pending _ c.in_ok-pending.ensures
    c.in_ok-print_names.ensures c.plan.ensures))

pub returns-in_err-extend_from_slice-clause-prefix : goal.returns-in_err-extend_from_slice-clause-prefix
returns-in_err-extend_from_slice-clause-prefix g c =
    let p = c.args.core.now.plan in
    on_err _ (prefix_as _ _ _ _
    (told_prefix _ _ _ _ closing_text (told_more _ _ _ _ _ _ _ c.in_ok-write_tracks.ensures.ok c.in_ok-write_counters.ensures.ok))
    (whole p c.plan.result.now c.agrees.ensures.fits c.in_ok-pending.pending _ c.in_ok-pending.ensures
    c.in_ok-print_names.ensures c.plan.ensures))

pub returns-clause-rest : goal.returns-clause-rest
returns-clause-rest g c =
    let p = c.args.core.now.plan in
    told_as _ _ _ _ _
    (told_kept _ _ _ _ _ closing_text (told_more _ _ _ _ _ _ _ c.in_ok-write_tracks.ensures.ok c.in_ok-write_counters.ensures.ok)
    c.in_ok-extend_from_slice.ensures.ok)
    (whole p c.plan.result.now c.agrees.ensures.fits c.in_ok-pending.pending _ c.in_ok-pending.ensures
    c.in_ok-print_names.ensures c.plan.ensures)
