use Rattle.std.proofs.Common.{◌∙◌, ap₂, sym, subst}
use Rattle.std.specs.Prelude.{All, AllPairs, List, ℕ, ◌≤◌, ◌<◌, ◌+◌, ◌^◌}
use Rattle.depth_advice.specs.{last_clock, most_ahead}
use Rattle.flow_design.specs.declared.limits.TheConstants.{FIFO_DEPTH}
use Rattle.port_clocks.proofs.Filled.{peak_told}
use Rattle.depth_advice.proofs.Finding.{peak_small, clock_early}
use Rattle.depth_advice.proofs.peaks.peak_of.Goals as goal

pub most_ahead-requires-clause-first : goal.most_ahead-requires-clause-first
most_ahead-requires-clause-first c =
    subst (AllPairs (λ a b. a ≤ b)) (sym c.as_slice.ensures) c.in_ok-clocks.ensures.pushes.in_order.rise

pub most_ahead-requires-clause-second : goal.most_ahead-requires-clause-second
most_ahead-requires-clause-second c =
    subst (AllPairs (λ a b. a ≤ b)) (sym c.as_slice-2.ensures) c.in_ok-clocks.ensures.pops.in_order.rise

pub most_ahead-requires-clause-early : goal.most_ahead-requires-clause-early
most_ahead-requires-clause-early c =
    let p = c.args.core.now.plan in
    subst (All (λ x. x + 1 < 2 ^ 64)) (sym c.as_slice.ensures)
    (clock_early p c.agrees.ensures.fits c.in_ok-clocks.clocks.pushes c.in_ok-clocks.ensures.pushes.in_order.below)

pub returns-clause-peak : goal.returns-clause-peak
returns-clause-peak c =
    let p = c.args.core.now.plan in
    c.most_ahead.ensures (last_clock p)
    (subst (All (λ x. x < last_clock p)) (sym c.as_slice.ensures) c.in_ok-clocks.ensures.pushes.in_order.below)
    ∙ (ap₂ (λ (xs ys : List ℕ). most_ahead xs ys (last_clock p)) c.as_slice.ensures c.as_slice-2.ensures
    ∙ sym (peak_told p c.agrees.ensures.fits c.args.channel c.requires.channel c.requires.fifo c.in_ok-clocks.clocks.pops
    c.in_ok-clocks.clocks.pushes c.in_ok-clocks.ensures.pops c.in_ok-clocks.ensures.pushes))

pub returns-clause-small : goal.returns-clause-small
returns-clause-small c =
    let p = c.args.core.now.plan in
    subst (λ (n : ℕ). n < FIFO_DEPTH)
    (sym (c.most_ahead.ensures (last_clock p)
    (subst (All (λ x. x < last_clock p)) (sym c.as_slice.ensures) c.in_ok-clocks.ensures.pushes.in_order.below)
    ∙ (ap₂ (λ (xs ys : List ℕ). most_ahead xs ys (last_clock p)) c.as_slice.ensures c.as_slice-2.ensures
    ∙ sym (peak_told p c.agrees.ensures.fits c.args.channel c.requires.channel c.requires.fifo c.in_ok-clocks.clocks.pops
    c.in_ok-clocks.clocks.pushes c.in_ok-clocks.ensures.pops c.in_ok-clocks.ensures.pushes))))
    (peak_small p c.agrees.ensures.fits c.args.channel c.requires.fifo)
