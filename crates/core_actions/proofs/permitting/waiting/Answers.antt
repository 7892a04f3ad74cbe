use Rattle.std.proofs.{Common.◌≡◌, Common.◌-◌, Common.ℕ, Common.ap, Common.◌∙◌, Common.arith, lemmas.Option.IfSome_then}
use Rattle.std.specs.Prelude.{option_map}
use Rattle.core_actions.specs.{in_lane, place_of, emitted_of}
use Rattle.core_actions.proofs.permitting.waiting.Goals.{After-look-step}
use Rattle.core_actions.specs.declared.actions.Cause.TheVariants as cause
use Rattle.core_actions.proofs.Permissions as permissions
use Rattle.core_actions.proofs.permitting.waiting.Goals as goal

last_is : (c : After-look-step) → c.in_ok-last.last ≡ emitted_of c.args.core.now.held c.args.owner - 1
last_is c = c.in_ok-last.ensures.1 ∙ ap (λ (n : ℕ). n - 1) (rw c.engine-engine.ensures.lanes at c.len.ensures.count)

pub number_of-requires : goal.number_of-requires
number_of-requires c =
    let short = c.look-step.ensures.sound.accesses in
    IfSome_then c.first_missing-missing.result c.first_missing-missing.ensures.inside (λ i l. omega arith)

pub returns-in-Some : goal.returns-in-Some
returns-in-Some c =
    let there = rw c.engine-engine.ensures.lanes at c.look-step.ensures.step in
    let found = rw (c.engine-engine.ensures.channels, c.outcomes.ensures, c.engine-engine.ensures.logs) at
    (c.in-Some.ensures ∙ c.first_missing-missing.ensures.missing) in
    ap (option_map (cause.Waiting (place_of c.args.owner c.in_ok-last.last))) found
    ∙ permissions.waits_at c.args.core.now c.engine-engine.ensures.fits c.engine-engine.ensures.sound c.args.owner c.requires
    c.in_ok-last.last
    (in_lane c.look-step.result) there (last_is (goal.at.returns-in-Some c).After-look-step)

pub returns-in-None : goal.returns-in-None
returns-in-None c =
    let there = rw c.engine-engine.ensures.lanes at c.look-step.ensures.step in
    let found = rw (c.engine-engine.ensures.channels, c.outcomes.ensures, c.engine-engine.ensures.logs) at
    (c.in-None.ensures ∙ c.first_missing-missing.ensures.missing) in
    ap (option_map (cause.Waiting (place_of c.args.owner c.in_ok-last.last))) found
    ∙ permissions.waits_at c.args.core.now c.engine-engine.ensures.fits c.engine-engine.ensures.sound c.args.owner c.requires
    c.in_ok-last.last
    (in_lane c.look-step.result) there (last_is (goal.at.returns-in-None c).After-look-step)
