use Rattle.std.proofs.Common.{sym, ap, subst, ◌∙◌, ℕ, ◌+◌, ◌-◌, slice_get}
use Rattle.std.proofs.lemmas.Bool.{both_ways}
use Rattle.cycle_changes.specs.{side_of, other_side, Side, channel_at, free_of, places_of, step_of, held_in, StandsAs}
use Rattle.cycle_changes.proofs.Reaching.{waits_so}
use Rattle.cycle_changes.proofs.reach.are_enabled_right.Goals as goal

pub returns-then-not-is_fifo : goal.returns-then-not-is_fifo
returns-then-not-is_fifo c = λ e m n l q.
    let w = waits_so c.args.engine.now c.requires.core c.args.at c.args.access.now c.requires.access m n l q in
    absurd (both_ways _ c.if-not-is_fifo.true (c.is_fifo.ensures.1 w.fifo))

pub returns-then-not-is_step : goal.returns-then-not-is_step
returns-then-not-is_step c = λ e m n l q.
    let w = waits_so c.args.engine.now c.requires.core c.args.at c.args.access.now c.requires.access m n l q in
    let channel = channel_at c.args.engine.now.fifos.channels c.args.access.now.channel in
    let is = c.place-taker.ensures ∙ (ap (λ (s : Side). slice_get (places_of s channel) (c.args.access.now.ordinal - 1)) c.side-side.ensures
    ∙ w.taken) in
    absurd (both_ways _ c.if-not-is_step.true (c.is_step.ensures is))

pub returns-in-Some : goal.returns-in-Some
returns-in-Some c = λ e m n l q.
    let h = held_in c.args.engine.now in
    let w = waits_so c.args.engine.now c.requires.core c.args.at c.args.access.now c.requires.access m n l q in
    let kind = (channel_at c.args.engine.now.fifos.channels c.args.access.now.channel).kind in
    let side = c.other.ensures ∙ ap other_side c.side-side.ensures in
    let free = c.free.ensures ∙ ap (free_of kind) side in
    let ordinal = c.in-Some.ensures.1 ∙ ap (λ (v : ℕ). c.args.access.now.ordinal + v) free in
    c.are_right_at.ensures e m n l
    (subst (λ (s : Side). StandsAs s c.args.access.now.channel c.in-Some.ordinal (step_of h m n)) (sym side)
    (subst (λ (v : ℕ). StandsAs (other_side (side_of c.args.access.now.kind)) c.args.access.now.channel v (step_of h m n)) (sym ordinal)
    w.stands))
