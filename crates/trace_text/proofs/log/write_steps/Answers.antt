use Rattle.std.proofs.Common.{◌≡◌, ◌∙◌, ap, sym, subst, refl, arith, List, ℕ, ◌++◌, ◌∷◌, [], append-nil}
use Rattle.std.specs.Prelude.{All}
use Rattle.trace_text.specs.{Lane, IsSoundLane, Plan, HistoryStep, TimedStep, IsTimedKey, StepWalk, IsWalk, HasGiven, LoggedAccess}
use Rattle.trace_text.specs.{logged_at, IsOfDesign}
use Rattle.flow_design.proofs.Failing.{on_err}
use Rattle.sim_io.proofs.Pending.{prefix_as, prefix_none, told_as, told_more, told_none, told_prefix, told_prefix_more}
use Rattle.trace_text.proofs.LogLines.{step_lines, history_lines}
use Rattle.trace_text.proofs.Stepping.{step_read, rest_of, step_named, text_more}
use Rattle.trace_text.proofs.log.write_steps.Goals as goal

-- a step more was given, by the lanes as they are read
given_more : (lanes same : List Lane) → lanes ≡ same → (old new : StepWalk) (key : TimedStep)
    → ((keys : List TimedStep) → HasGiven lanes old keys → HasGiven lanes new (keys ++ key ∷ [])) → (keys : List TimedStep)
    → HasGiven same old keys → HasGiven same new (keys ++ key ∷ [])
given_more lanes same e old new key more keys given =
    subst (λ (ls : List Lane). HasGiven ls new (keys ++ key ∷ [])) e
    (more keys (subst (λ (ls : List Lane). HasGiven ls old keys) (sym e) given))

pub returns-in_err-walk-clause-err : goal.returns-in_err-walk-clause-err
returns-in_err-walk-clause-err g c = on_err _ (prefix_none _ _)

pub loop-step-init : goal.loop-step-init
loop-step-init g c =
    let same = c.engine.ensures.lanes in
    let walk = c.in_ok-walk.walk in
    record {
      walk = subst (λ (ls : List Lane). IsWalk ls walk) same c.in_ok-walk.ensures.walk;
      telling = record {
        keys = [];
        given = subst (λ (ls : List Lane). HasGiven ls walk []) same c.in_ok-walk.ensures.given;
        text = told_as _ _ _ _ _ (told_none _ c.args.pending.now) (sym (append-nil c.args.pending.now));
      };
      faults = omega arith;
    }

pub log_step-requires : goal.log_step-requires
log_step-requires g c = subst (λ (ls : List Lane). IsTimedKey ls c.in-Some.step) c.engine.ensures.lanes c.in-Some.ensures.timed

pub returns-in_err-log_step-clause-err : goal.returns-in_err-log_step-clause-err
returns-in_err-log_step-clause-err g c =
    let p = c.args.core.now.plan in
    let h = c.args.core.now.held in
    let sound = subst (All IsSoundLane) c.engine.ensures.lanes c.stays_sound.ensures in
    let telling = c.loop-step.invariant.telling in
    let whole = rest_of p h c.engine.result.now.ends.items c.engine.ensures.finished sound c.loop-step.walk c.loop-step.invariant.walk
    c.args.pending.now
    telling.keys telling.given in
    on_err _ (prefix_as _ _ _ _ (told_prefix _ _ _ _ whole.0 telling.text) whole.1)

pub write_log-requires : goal.write_log-requires
write_log-requires g c =
    let p = c.args.core.now.plan in
    let h = c.args.core.now.held in
    let same = c.engine.ensures.lanes in
    let sound = subst (All IsSoundLane) same c.stays_sound.ensures in
    let telling = c.loop-step.invariant.telling in
    let key = c.in-Some.step in
    let timed = subst (λ (ls : List Lane). IsTimedKey ls key) same c.in-Some.ensures.timed in
    let walk = subst (λ (ls : List Lane). IsWalk ls c.advance.new.self) same c.in-Some.ensures.walk in
    let given = given_more c.engine.result.now.graph.lanes h.lanes same c.loop-step.walk c.advance.new.self key c.in-Some.ensures.some
    telling.keys telling.given in
    let read = step_read p h c.engine.result.now.ends.items c.engine.ensures.finished key timed c.log_step.new.log
    (c.in_ok-log_step.ensures ∙ ap (λ (xs : List LoggedAccess). xs ++ logged_at h key) c.truncate.ensures) in
    let named = step_named p h c.engine.result.now.ends.items c.engine.ensures.finished sound
    (c.reports_name_their_plans.ensures p c.engine.ensures.finished.fits) c.advance.new.self walk telling.keys key given in
    subst (λ (q : Plan). All (IsOfDesign q.design) c.as_slice.result.now) (sym c.plan.ensures)
    (subst (All (IsOfDesign p.design)) (sym (c.as_slice.ensures ∙ read)) named)

pub loop-step-preserved : goal.loop-step-preserved
loop-step-preserved g c =
    let p = c.args.core.now.plan in
    let h = c.args.core.now.held in
    let same = c.engine.ensures.lanes in
    let telling = c.loop-step.invariant.telling in
    let key = c.in-Some.step in
    let timed = subst (λ (ls : List Lane). IsTimedKey ls key) same c.in-Some.ensures.timed in
    let read = step_read p h c.engine.result.now.ends.items c.engine.ensures.finished key timed c.log_step.new.log
    (c.in_ok-log_step.ensures ∙ ap (λ (xs : List LoggedAccess). xs ++ logged_at h key) c.truncate.ensures) in
    record {
      walk = subst (λ (ls : List Lane). IsWalk ls c.advance.new.self) same c.in-Some.ensures.walk;
      telling = record {
        keys = telling.keys ++ key ∷ [];
        given = given_more c.engine.result.now.graph.lanes h.lanes same c.loop-step.walk c.advance.new.self key c.in-Some.ensures.some
            telling.keys telling.given;
        text = told_as _ _ _ _ _ (told_more _ _ _ _ _ _ _ telling.text c.in_ok-write_log.ensures.ok)
            (text_more p c.plan.result.now h c.args.pending.now telling.keys key c.log_step.new.log c.as_slice.result.now read
            c.as_slice.ensures c.plan.ensures);
      };
      faults = omega (arith, c.loop-step.invariant.faults, c.in_ok-write_log.ensures.cause.later);
    }

pub returns-in_err-write_log-clause-err : goal.returns-in_err-write_log-clause-err
returns-in_err-write_log-clause-err g c =
    let p = c.args.core.now.plan in
    let h = c.args.core.now.held in
    let same = c.engine.ensures.lanes in
    let sound = subst (All IsSoundLane) same c.stays_sound.ensures in
    let telling = c.loop-step.invariant.telling in
    let key = c.in-Some.step in
    let timed = subst (λ (ls : List Lane). IsTimedKey ls key) same c.in-Some.ensures.timed in
    let walk = subst (λ (ls : List Lane). IsWalk ls c.advance.new.self) same c.in-Some.ensures.walk in
    let given = given_more c.engine.result.now.graph.lanes h.lanes same c.loop-step.walk c.advance.new.self key c.in-Some.ensures.some
    telling.keys telling.given in
    let read = step_read p h c.engine.result.now.ends.items c.engine.ensures.finished key timed c.log_step.new.log
    (c.in_ok-log_step.ensures ∙ ap (λ (xs : List LoggedAccess). xs ++ logged_at h key) c.truncate.ensures) in
    let whole = rest_of p h c.engine.result.now.ends.items c.engine.ensures.finished sound c.advance.new.self walk c.args.pending.now
    (telling.keys ++ key ∷ []) given in
    on_err _ (prefix_as _ _ _ _ (told_prefix_more _ _ _ _ _ _ whole.0 telling.text c.in_err-write_log.ensures.err)
    (ap (λ (t : List ℕ). t ++ whole.0)
    (text_more p c.plan.result.now h c.args.pending.now telling.keys key c.log_step.new.log c.as_slice.result.now read c.as_slice.ensures
    c.plan.ensures)
    ∙ whole.1))

pub returns-clause-ok : goal.returns-clause-ok
returns-clause-ok g c =
    let p = c.args.core.now.plan in
    let h = c.args.core.now.held in
    let same = c.engine.ensures.lanes in
    let telling = c.loop-step.invariant.telling in
    let all = c.in_default.ensures.none refl telling.keys
    (subst (λ (ls : List Lane). HasGiven ls c.loop-step.walk telling.keys) (sym same) telling.given) p h c.engine.result.now.ends.items
    c.engine.ensures.finished (sym same) in
    told_as _ _ _ _ _ telling.text
    (ap (λ (steps : List HistoryStep). c.args.pending.now ++ step_lines p steps) all
    ∙ ap (λ (t : List ℕ). c.args.pending.now ++ t) (history_lines p))
