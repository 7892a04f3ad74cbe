use Rattle.std.proofs.Common.{ℕ, ◌≤◌, List, length, sym, ◌∙◌, ap, subst, arith}
use Rattle.std.proofs.lemmas.List.{length-map}
use Rattle.std.specs.Prelude.{slice_index}
use Rattle.least_memory.specs.{Channel, Leasts}
use Rattle.flow_design.specs.declared.limits.TheConstants.{FIFO_DEPTH}
use Rattle.least_memory.proofs.Least.{depths_most, leasts_within}
use Rattle.least_memory.proofs.least_text.tell_least.Goals as goal

pub bits_of-bits-requires-clause-count : goal.bits_of-bits-requires-clause-count
bits_of-bits-requires-clause-count g c =
    let within = leasts_within c.args.slack c.args.plan.now c.fits.ensures in
    ap (λ (ws : List ℕ). length ws) (c.as_slice.ensures ∙ c.in_ok-widths.ensures.value)
    ∙ (length-map c.channels-channels.result.now (λ (x : Channel). x.width)
    ∙ (ap (λ (cs : List Channel). length cs) c.channels-channels.ensures
    ∙ sym (ap (λ (ds : List ℕ). length ds) (c.as_slice-2.ensures ∙ ap (λ (x : Leasts). x.depths) c.in_ok-found.ensures) ∙ within.count)))

pub bits_of-bits-requires-clause-few : goal.bits_of-bits-requires-clause-few
bits_of-bits-requires-clause-few g c =
    let within = leasts_within c.args.slack c.args.plan.now c.fits.ensures in
    let count = ap (λ (ds : List ℕ). length ds) (c.as_slice-2.ensures ∙ ap (λ (x : Leasts). x.depths) c.in_ok-found.ensures) ∙
    within.count in
    let few = c.fits.ensures.channel_count in
    omega arith

pub bits_of-bits-requires-clause-most : goal.bits_of-bits-requires-clause-most
bits_of-bits-requires-clause-most g c =
    let within = leasts_within c.args.slack c.args.plan.now c.fits.ensures in
    subst (λ (ds : List ℕ). (f : ℕ) → slice_index ds f ≤ FIFO_DEPTH)
    (sym (c.as_slice-2.ensures ∙ ap (λ (x : Leasts). x.depths) c.in_ok-found.ensures)) (depths_most c.args.plan.now _ within)

pub print_depths-requires : goal.print_depths-requires
print_depths-requires g c =
    let within = leasts_within c.args.slack c.args.plan.now c.fits.ensures in
    ap (λ (ds : List ℕ). length ds) (c.as_slice-3.ensures ∙ ap (λ (x : Leasts). x.depths) c.in_ok-found.ensures)
    ∙ (within.count ∙ sym (ap (λ (cs : List Channel). length cs) c.channels-channels.ensures))
