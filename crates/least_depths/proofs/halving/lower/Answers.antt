use Rattle.std.proofs.Common.{◌≡◌, ◌∙◌, sym, ap, subst, arith, ℕ, ◌+◌, List}
use Rattle.least_depths.specs.{Plan, with_depth, middle, is_in_time}
use Rattle.std.specs.Prelude.{slice_index}
use Rattle.least_depths.proofs.{Trying.IsHalving, Trying.alike_quiet, Trying.begun, Trying.same_time, Trying.halves_lower}
use Rattle.least_depths.proofs.{Trying.halves_upper, Trying.halving_ends, Trying.tries_so_far, Trying.alike_fits, Sessions.edited_plan}
use Rattle.least_depths.proofs.{Sessions.edited_runs, halving.lower.Goals.then-branch, halving.lower.Goals.else-branch}
use Rattle.least_depths.proofs.halving.lower.Goals as goal

pub loop-least-init : goal.loop-least-init
loop-least-init g c =
    let p = c.args.session.now.plan in
    let f = c.args.target.now.channel in
    let clock = c.args.target.now.clock in
    let same : c.as_slice.result.now ≡ p.depths = c.as_slice.ensures ∙ ap (λ (q : Plan). q.depths) c.plan.ensures in
    let ok = c.in_ok-known.ensures in
    let runs = ok.runs in
    let made = c.try_bound.ensures.quiet in
    record {
      live = ok.live;
      runs = omega arith;
      made = omega arith;
      quiet = λ none. (made, alike_quiet p f c.try_bound.new.session.plan ok.alike none);
      halving = subst (λ (ds : List ℕ). IsHalving p f clock c.try_bound.new.session.plan 1 (slice_index ds f) 0) (sym same)
          (begun p f clock c.try_bound.new.session.plan ok.alike c.requires.depth.least);
    }

pub overflow_add-depth : goal.overflow_add-depth
overflow_add-depth g c =
    let high = c.loop-least.invariant.halving.high in
    let low = c.loop-least.invariant.halving.ordered in
    let most = c.requires.depth.most in
    omega arith

pub is_timely-requires-clause-fits : goal.is_timely-requires-clause-fits
is_timely-requires-clause-fits g c = λ κs outlives.
    let x = c.loop-least.invariant.halving in
    let low = x.low in
    let high = x.high in
    let most = c.requires.depth.most in
    alike_fits c.args.session.now.plan c.args.target.now.channel c.loop-least.session.plan (middle c.loop-least.least c.loop-least.most)
    x.alike
    c.requires.depth.fifo c.requires.depth.entry (omega (arith, c.loop-least-test.true)) (omega (arith, c.loop-least-test.true))

-- what is known of the middle
pub is_timely-requires-clause-late : goal.is_timely-requires-clause-late
is_timely-requires-clause-late g c = λ κs outlives below.
    let x = c.loop-least.invariant.halving in
    let known = c.in_ok-known.known in
    let low = x.low in
    let high = x.high in
    let mid = middle c.loop-least.least c.loop-least.most in
    same_time c.args.session.now.plan c.args.target.now.channel known.clock c.loop-least.session.plan mid x.alike
    ∙ c.in_ok-known.ensures.known.late mid (omega (arith, c.loop-least-test.true)) (omega (arith, c.loop-least-test.true)) below

pub is_timely-requires-clause-timely : goal.is_timely-requires-clause-timely
is_timely-requires-clause-timely g c = λ κs outlives from.
    let x = c.loop-least.invariant.halving in
    let known = c.in_ok-known.known in
    let low = x.low in
    let high = x.high in
    let mid = middle c.loop-least.least c.loop-least.most in
    same_time c.args.session.now.plan c.args.target.now.channel known.clock c.loop-least.session.plan mid x.alike
    ∙ c.in_ok-known.ensures.known.timely mid (omega (arith, c.loop-least-test.true)) (omega (arith, c.loop-least-test.true)) from

pub loop-least-preserved : goal.loop-least-preserved
loop-least-preserved g c =
    let p = c.args.session.now.plan in
    let f = c.args.target.now.channel in
    let clock = c.args.target.now.clock in
    let q = c.loop-least.session.plan in
    let r = c.is_timely.new.session.plan in
    let least = c.loop-least.least in
    let most = c.loop-least.most in
    let tries = c.loop-least.tries in
    let x = c.loop-least.invariant.halving in
    let ok = c.in_ok-is_timely.ensures in
    let runs = c.loop-least.invariant.runs in
    let more = ok.runs in
    let made = c.loop-least.invariant.made in
    let one = c.is_timely.ensures.made in
    let mid = middle least most in
    -- the clock that is known is the target's
    let told = ok.in_time ∙ ap (λ (k : ℕ). is_in_time q k f mid) c.in_ok-known.ensures.clock in
    record {
      live = ok.live;
      runs = omega arith;
      made = omega arith;
      quiet = λ none.
          let (same, still) = c.loop-least.invariant.quiet none in
          (c.is_timely.ensures.quiet still ∙ same, alike_quiet q f r ok.alike still);
      halving = elim c.if-branch.branch [
        | then-branch w ↦
            subst (λ (n : ℕ). IsHalving p f clock r n c.if-branch.most (tries + 1)) (sym w.least-is)
            (subst (λ (n : ℕ). IsHalving p f clock r least n (tries + 1)) (sym w.most-is)
            (halves_lower p f clock q r least most tries c.loop-least-test.true x ok.alike (sym told ∙ w.if-branch.true)))
        | else-branch w ↦
            subst (λ (n : ℕ). IsHalving p f clock r n c.if-branch.most (tries + 1)) (sym w.least-is)
            (subst (λ (n : ℕ). IsHalving p f clock r (middle least most + 1) n (tries + 1)) (sym w.most-is)
            (halves_upper p f clock q r least most tries c.loop-least-test.true x ok.alike (sym told ∙ w.if-branch.false)))
      ];
    }

pub edit-requires-clause-fits : goal.edit-requires-clause-fits
edit-requires-clause-fits g c = λ κs outlives.
    let x = c.loop-least.invariant.halving in
    let ordered = x.ordered in
    let high = x.high in
    let most = c.requires.depth.most in
    alike_fits c.args.session.now.plan c.args.target.now.channel c.loop-least.session.plan c.loop-least.least x.alike
    c.requires.depth.fifo c.requires.depth.entry
    x.low (omega arith)

pub returns-clause-plan : goal.returns-clause-plan
returns-clause-plan g c =
    let p = c.args.session.now.plan in
    let f = c.args.target.now.channel in
    let s = c.loop-least.session in
    let x = c.loop-least.invariant.halving in
    let ends = halving_ends p f c.args.target.now.clock s.plan c.loop-least.least c.loop-least.most c.loop-least.tries
    c.loop-least-test.false x in
    edited_plan s c.edit.new.self (record { channel = f; depth = c.loop-least.least }) c.in_ok-edit.ensures.edited
    ∙ (x.alike c.loop-least.least ∙ ap (with_depth p f) ends.0)

pub returns-clause-tries : goal.returns-clause-tries
returns-clause-tries g c =
    (halving_ends c.args.session.now.plan c.args.target.now.channel c.args.target.now.clock c.loop-least.session.plan c.loop-least.least
    c.loop-least.most
    c.loop-least.tries c.loop-least-test.false c.loop-least.invariant.halving).1

pub returns-clause-runs : goal.returns-clause-runs
returns-clause-runs g c =
    let x = c.loop-least.invariant.halving in
    let few = x.few in
    let ordered = x.ordered in
    let most = c.requires.depth.most in
    let runs = c.loop-least.invariant.runs in
    let last = edited_runs c.loop-least.session c.edit.new.self (record { channel = c.args.target.now.channel; depth = c.loop-least.least })
    c.in_ok-edit.ensures.edited in
    omega arith

pub returns-in_err-is_timely-clause-made : goal.returns-in_err-is_timely-clause-made
returns-in_err-is_timely-clause-made g c =
    let x = c.loop-least.invariant.halving in
    let tries = tries_so_far c.args.session.now.plan c.args.target.now.channel c.args.target.now.clock c.loop-least.session.plan
    c.loop-least.least
    c.loop-least.most c.loop-least.tries x in
    let before = c.loop-least.invariant.made in
    let more = c.is_timely.ensures.made in
    omega arith

pub returns-clause-made : goal.returns-clause-made
returns-clause-made g c =
    let x = c.loop-least.invariant.halving in
    let tries = tries_so_far c.args.session.now.plan c.args.target.now.channel c.args.target.now.clock c.loop-least.session.plan
    c.loop-least.least
    c.loop-least.most c.loop-least.tries x in
    let before = c.loop-least.invariant.made in
    let more = c.edit.ensures.few in
    omega arith
