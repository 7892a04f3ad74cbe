use Rattle.std.proofs.Common.{refl, ap, List, Bool}
use Rattle.std.specs.Prelude.{slice_get}
use Rattle.cycle_changes.specs.{in_lane, held_in}
use Rattle.cycle_changes.proofs.HeldSteps.{few, found_held, held_found, inside, step_is}
use Rattle.cycle_changes.proofs.looking.has_outcomes.Goals as goal

pub compare_outcomes-found-requires-clause-inside : goal.compare_outcomes-found-requires-clause-inside
compare_outcomes-found-requires-clause-inside c =
    let (d, i, k, r) = c.requires.core in
    let step = in_lane c.look-step.result in
    let h = held_in c.args.engine.now in
    inside h c.args.at.module c.args.at.step step step.accesses (step_is h c.args.at.module c.args.at.step step c.look-step.ensures.step)
    refl d k.sound c.requires.there.step

pub compare_outcomes-found-requires-clause-few : goal.compare_outcomes-found-requires-clause-few
compare_outcomes-found-requires-clause-few c =
    let (d, i, k, r) = c.requires.core in
    let step = in_lane c.look-step.result in
    let h = held_in c.args.engine.now in
    few h c.args.at.module c.args.at.step step step.accesses (step_is h c.args.at.module c.args.at.step step c.look-step.ensures.step)
    refl d k.sound c.requires.there.step (r.few c.args.at.module) c.look-step.ensures.sound.accesses

pub returns-in-Same : goal.returns-in-Same
returns-in-Same c =
    let step = in_lane c.look-step.result in
    let h = held_in c.args.engine.now in (
      λ e. found_held h c.args.at.module c.args.at.step step step.accesses
          (step_is h c.args.at.module c.args.at.step step c.look-step.ensures.step) refl c.args.cycle
          (c.compare_outcomes-found.ensures.same c.in-Same.is),
      λ e. refl,
    )

pub returns-in_default : goal.returns-in_default
returns-in_default c =
    let step = in_lane c.look-step.result in
    let h = held_in c.args.engine.now in
    let other = c.compare_outcomes-found.ensures.differs c.in_default.field-0 c.in_default.is in (
      λ e. cc,
      λ e. absurd (other.differs (ap (λ (bs : List Bool). slice_get bs other.place)
          (held_found h c.args.at.module c.args.at.step step step.accesses
          (step_is h c.args.at.module c.args.at.step step c.look-step.ensures.step) refl c.args.cycle e))),
    )
