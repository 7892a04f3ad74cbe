use Rattle.std.proofs.Common.{◌≡◌, sym, ap, ◌∙◌, List, ◌∷◌, ◌++◌, length, append-nil}
use Rattle.std.proofs.lemmas.List.Elements.{All-push}
use Rattle.cycle_changes.specs.{side_of, other_side, Access, Step, in_lane, step_of, held_in, AreLooked, WaitsAt}
use Rattle.time_engine.proofs.Yielded.{within, here, onward}
use Rattle.cycle_changes.proofs.{HeldSteps.step_is, Reaching.waits_some, Waiting.no_access}
use Rattle.cycle_changes.proofs.reach.are_waiting_right.Goals.{In-Some, After-into_iter-access-iterator}
use Rattle.cycle_changes.proofs.reach.are_waiting_right.Goals as goal

-- the accesses that came, this one, and those that are left
parts : (c : In-Some) → c.into_iter-access-iterator.result ≡ c.loop-access.yielded ++ c.in-Some.access ∷ c.next.new.self
parts c = c.loop-access.invariant.0 ∙ ap (λ (xs : List Access). c.loop-access.yielded ++ xs) c.in-Some.ensures.steps

-- the accesses of the step that is held
held : (c : After-into_iter-access-iterator)
    → (step_of (held_in c.args.engine.now) c.args.at.module c.args.at.step).accesses ≡ c.into_iter-access-iterator.result
held c =
    ap (λ (t : Step). t.accesses) (step_is (held_in c.args.engine.now) c.args.at.module c.args.at.step (in_lane c.look-step.result)
    c.look-step.ensures.step)
    ∙ (sym c.iter-access-items.ensures ∙ sym c.into_iter-access-iterator.ensures.into_iter_gives)

pub are_enabled_right-requires-clause-access : goal.are_enabled_right-requires-clause-access
are_enabled_right-requires-clause-access c =
    let is = parts (goal.at.are_enabled_right-requires-clause-access c).In-Some in
    let xs = c.into_iter-access-iterator.result in
    rw (held (goal.at.are_enabled_right-requires-clause-access c).After-into_iter-access-iterator) (
      length c.loop-access.yielded,
      within
          xs _ _ _ is,
      here xs _ _ _ is c.in-Some.access,
    )

pub loop-access-preserved : goal.loop-access-preserved
loop-access-preserved c = (
  onward c.into_iter-access-iterator.result _ _ _ (parts (goal.at.loop-access-preserved c).In-Some),
  All-push (λ (a : Access). AreLooked (held_in c.args.engine.now)
      (WaitsAt c.args.engine.now.fifos.channels (other_side (side_of a.kind)) a.channel c.args.at)) c.loop-access.yielded
      c.in-Some.access c.loop-access.invariant.1 (c.are_enabled_right.ensures c.if-not-are_enabled_right.false),
)

pub returns : goal.returns
returns c = λ e m k l q.
    let ys = c.loop-access.yielded in
    let all = c.loop-access.invariant.0 ∙ (ap (λ (xs : List Access). ys ++ xs) c.in-None.ensures.steps.0 ∙ append-nil ys) in
    let same = held (goal.at.returns c).After-into_iter-access-iterator ∙ all in
    let (j, u, w) = waits_some c.args.engine.now c.requires.core c.args.at m k l q in
    c.loop-access.invariant.1 j no_access (rw same at u) m k l (rw same at w)
