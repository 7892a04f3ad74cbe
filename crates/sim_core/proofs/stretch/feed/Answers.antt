use Rattle.std.proofs.Common.{◌≡◌, true, refl, sym, ◌∙◌, ◌-◌, ◌<◌, List, Option, length, arith}
use Rattle.sim_core.specs.{Step, Plan, ModuleRun, waits, step_of, emitted_of, held_in, IsOutOf}
use Rattle.engine_view.specs.Held.{Held}
use Rattle.sim_core.proofs.{Stretching.log_inside, stretch.feed.Goals.After-waiting}
use Rattle.sim_core.proofs.Fed as fed
use Rattle.sim_core.proofs.stretch.feed.Goals as goal

-- the step at which the run waits
module _ (c : After-waiting) {p : Plan} {runs : List (Option ModuleRun)}
    (o : IsOutOf p c.args.engine.now runs c.args.owner c.args.run.now) where
  abbrev h : Held
  h = held_in c.args.engine.now

  inside : c.args.owner < length h.lanes
  inside = let a = o.inside in let b = o.core.sound.lanes in omega arith

  is_waiting : waits c.args.run.now ≡ true
  is_waiting = sym c.is_waiting.ensures ∙ c.if-not-is_waiting.false

  abbrev step : Step
  step = step_of h c.args.owner (emitted_of h c.args.owner - 1)

  accesses : c.waiting.result.now ≡ step.accesses
  accesses = fed.asked_accesses o.core inside o.run_is is_waiting c.waiting.ensures.accesses

  queries : c.queries-told.result ≡ step.first_query
  queries = fed.asked_queries o.core inside o.run_is is_waiting c.queries-told.ensures.made

pub outcomes-outcomes-requires : goal.outcomes-outcomes-requires
outcomes-outcomes-requires c = let (p, (runs, o)) = c.requires.out in log_inside o.core o.inside

pub find_replies-requires : goal.find_replies-requires
find_replies-requires c =
    let at = (goal.at.find_replies-requires c).After-waiting in
    let (p, (runs, o)) = c.requires.out in
    rw (accesses at o) (fed.asked_inside o.core (inside at o) o.run_is (is_waiting at o))

pub returns-in_default-clause-not_fed : goal.returns-in_default-clause-not_fed
returns-in_default-clause-not_fed c = λ e p runs o.
    let at = (goal.at.returns-in_default-clause-not_fed c).After-waiting in
    let missing = c.find_replies.ensures.missing (rw c.in_default.is refl) in
    let found = rw (c.outcomes-outcomes.ensures, queries at o, accesses at o) at missing in
    fed.asked_not_fed o.core (inside at o) o.run_is (is_waiting at o) found

pub feed-requires-clause-stands : goal.feed-requires-clause-stands
feed-requires-clause-stands c =
    let at = (goal.at.feed-requires-clause-stands c).After-waiting in
    let (p, (runs, o)) = c.requires.out in
    let (rs, there) = c.in-Some.ensures.found in
    let found = rw (c.outcomes-outcomes.ensures, queries at o, accesses at o) at there in
    let told = fed.asked_told o.core (inside at o) o.run_is (is_waiting at o) found in (
      p,
      (
        c.args.owner,
        (
          _,
          (
            fed.asked_stands o.core (inside at o) o.run_is (is_waiting at o),
            rw (c.new.ensures.outcomes, c.new.ensures.values, c.outcomes-outcomes.ensures, queries at o, told)
                (fed.asked_fits o.core (inside at o) o.run_is (is_waiting at o) found),
          ),
        ),
      ),
    )

pub feed-requires-clause-knows : goal.feed-requires-clause-knows
feed-requires-clause-knows c =
    let at = (goal.at.feed-requires-clause-knows c).After-waiting in
    let (p, (runs, o)) = c.requires.out in
    rw (c.new.ensures.values, fed.asked_listed o.core (inside at o) o.run_is (is_waiting at o))
    (fed.asked_inside o.core (inside at o) o.run_is (is_waiting at o))

pub returns-clause-out : goal.returns-clause-out
returns-clause-out c = λ p runs o.
    let at = (goal.at.returns-clause-out c).After-waiting in
    let (rs, there) = c.in-Some.ensures.found in
    let found = rw (c.outcomes-outcomes.ensures, queries at o, accesses at o) at there in
    let told = fed.asked_told o.core (inside at o) o.run_is (is_waiting at o) found in
    record {
      core = o.core;
      inside = o.inside;
      lent = o.lent;
      run_is = fed.asked_run o.core (inside at o) o.run_is (is_waiting at o) found
          (rw (c.new.ensures.outcomes, c.new.ensures.values, c.outcomes-outcomes.ensures, queries at o, told) at
          (c.feed.ensures.stands p c.args.owner _ (fed.asked_stands o.core (inside at o) o.run_is (is_waiting at o)))) c.feed.ensures.fed;
    }
