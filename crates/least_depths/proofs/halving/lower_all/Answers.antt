use Rattle.std.proofs.Common.{◌∙◌, sym, ap, subst, arith, refl, ℕ, ◌+◌, ◌*◌, ◌≤◌, length}
use Rattle.least_depths.specs.{Plan, FitsEngine, SessionView, AsksNothing, Lowered, least_for, lowered}
use Rattle.flow_design.specs.declared.limits.TheConstants.{FIFO_DEPTH}
use Rattle.least_depths.proofs.Channels.{same_channels, next_depth, fifo_plan, fifo_tries, tries_within, other_lowered}
use Rattle.least_depths.proofs.{Known.quiet_lowered, halving.lower_all.Goals.then-is_fifo+in_ok-tries, halving.lower_all.Goals.else-is_fifo}
use Rattle.least_depths.proofs.halving.lower_all.Goals as goal

pub loop-channel-init : goal.loop-channel-init
unfolding lowered
loop-channel-init g c = record {
  live = c.requires.live;
  runs = omega (arith, c.requires.few);
  few = omega arith;
  made = omega arith;
  quiet = λ none. (refl, none);
  plan = refl;
  tries = refl;
}

pub is_fifo-requires : goal.is_fifo-requires
is_fifo-requires g c =
    let fits = subst FitsEngine c.core.ensures c.agrees.ensures.fits in
    let channels = same_channels c.args.session.now.plan fits c.args.clock c.loop-channel.channel c.loop-channel.session.plan
    c.loop-channel.invariant.plan in
    let count = c.len-channels.ensures ∙ ap (λ (p : Plan). length p.design.channels) c.plan.ensures in
    omega (arith, c.loop-channel-test.true)

pub lower-requires-clause-depth : goal.lower-requires-clause-depth
lower-requires-clause-depth g c = λ κs outlives.
    let fits = subst FitsEngine c.core.ensures c.agrees.ensures.fits in
    next_depth c.args.session.now.plan fits c.args.clock c.loop-channel.channel c.loop-channel.session.plan c.loop-channel.invariant.plan
    (let count = c.len-channels.ensures ∙ ap (λ (p : Plan). length p.design.channels) c.plan.ensures in
    omega (arith, c.loop-channel-test.true)) (sym c.is_fifo.ensures ∙ c.if-is_fifo.true)

pub lower-requires-clause-latest : goal.lower-requires-clause-latest
lower-requires-clause-latest g c = λ κs outlives some.
    let fits = subst FitsEngine c.core.ensures c.agrees.ensures.fits in
    quiet_lowered c.args.session.now.plan fits c.args.clock c.loop-channel.channel c.loop-channel.session.plan
    c.loop-channel.invariant.plan (c.requires.latest some)

pub loop-channel-preserved : goal.loop-channel-preserved
loop-channel-preserved g c =
    let p = c.args.session.now.plan in
    let fits = subst FitsEngine c.core.ensures c.agrees.ensures.fits in
    let clock = c.args.clock in
    let n = c.loop-channel.channel in
    let x = c.loop-channel.invariant in
    let q = c.loop-channel.session.plan in
    elim c.if-is_fifo.branch [
      | then-is_fifo+in_ok-tries w ↦
          let ok = w.in_ok-tries.ensures in
          let fifo = sym c.is_fifo.ensures ∙ w.if-is_fifo.true in
          let few = ok.few in
          let runs = ok.runs in
          record {
            live = ap (λ (s : SessionView). s.live) w.session-is ∙ ok.live;
            runs = subst (λ (s : SessionView). s.count.runs ≤ 1 + (n + 1) * (FIFO_DEPTH + 1)) (sym w.session-is) (omega (arith, x.runs));
            few = subst (λ (t : ℕ). t ≤ (n + 1) * FIFO_DEPTH) (sym w.tries-is) (omega (arith, x.few));
            made =
                let runner = ap g.U.Runner.made w.runner-is in
                let made = w.lower.ensures.made in
                let tries = ok.tries in
                let sum = w.tries-is in
                omega (arith, x.made);
            quiet = λ none.
                let (same, still) = x.quiet none in (
                  ap g.U.Runner.made w.runner-is ∙ (w.lower.ensures.quiet still ∙ same),
                  subst (λ (s : SessionView). AsksNothing s.plan) (sym w.session-is) (subst AsksNothing (sym ok.plan) still),
                );
            plan = ap (λ (s : SessionView). s.plan) w.session-is
                ∙ fifo_plan p fits clock n q w.lower.new.session.plan x.plan fifo ok.plan;
            tries = w.tries-is
                ∙ fifo_tries p fits clock n q c.loop-channel.tries w.in_ok-tries.field-0 x.plan fifo x.tries ok.tries;
          }
      | else-is_fifo w ↦
          let other = sym c.is_fifo.ensures ∙ w.if-is_fifo.false in
          let same = other_lowered p fits clock n q x.plan other in
          record {
            live = ap (λ (s : SessionView). s.live) w.session-is ∙ x.live;
            runs = subst (λ (s : SessionView). s.count.runs ≤ 1 + (n + 1) * (FIFO_DEPTH + 1)) (sym w.session-is) (omega (arith, x.runs));
            few = subst (λ (t : ℕ). t ≤ (n + 1) * FIFO_DEPTH) (sym w.tries-is) (omega (arith, x.few));
            made =
                let runner = ap g.U.Runner.made w.runner-is in
                let sum = w.tries-is in
                omega (arith, x.made);
            quiet = λ none.
                let (same, still) = x.quiet none in
                (ap g.U.Runner.made w.runner-is ∙ same, subst (λ (s : SessionView). AsksNothing s.plan) (sym w.session-is) still);
            plan = ap (λ (s : SessionView). s.plan) w.session-is ∙ (x.plan ∙ ap (λ (y : Lowered). y.plan) same);
            tries = w.tries-is ∙ (x.tries ∙ ap (λ (y : Lowered). y.tries) same);
          }
    ]

pub returns-in_err-tries-clause-made : goal.returns-in_err-tries-clause-made
returns-in_err-tries-clause-made g c =
    let x = c.loop-channel.invariant in
    let n = c.loop-channel.channel in
    let count = c.len-channels.ensures ∙ ap (λ (p : Plan). length p.design.channels) c.plan.ensures in
    let inside = c.loop-channel-test.true in
    let p = c.args.session.now.plan in
    let fits = subst FitsEngine c.core.ensures c.agrees.ensures.fits in
    let tries = tries_within p fits c.args.clock n (length p.design.channels) c.loop-channel.session.plan c.loop-channel.tries
    (least_for c.loop-channel.session.plan c.args.clock n).tries (omega arith) x.plan
    (sym c.is_fifo.ensures ∙ c.if-is_fifo.true) x.tries refl in
    let more = c.lower.ensures.made in
    omega (arith, x.made)
