use Rattle.std.proofs.Common.{◌≡◌, refl, sym, ap, subst, ◌∙◌, ◌+◌, ◌<◌, ◌≤◌, List, Option, arith}
use Rattle.sim_core.specs.{Plan, ModuleRun, design, Engine, IsIdle, IsHeldOf, TimesOn, view_in, CoreView, theory_of}
use Rattle.sim_core.specs.declared.visit.Visit.TheVariants.{Differs, Idle}
use Rattle.sim_core.proofs.timings.time_many.Given.{Over}
use Rattle.sim_core.proofs.timings.time_many.Goals.{After-time_once, After-is_timed, in-Assigned, in-Answered}
use Rattle.sim_core.proofs.Stretched as stretched
use Rattle.sim_core.proofs.timings.time_many.Goals as goal

pub loop-cycles-init : goal.loop-cycles-init
loop-cycles-init g c = record {
  held = λ p runs h. h;
  ends = refl;
  none = λ e. refl;
  some = λ l. absurd (omega (arith, l));
  ticks = omega arith;
  few = omega arith;
  most = omega arith;
}

pub time_once-requires : goal.time_once-requires
time_once-requires g c =
    let (p, (runs, h)) = c.requires.held in record { held = (p, (runs, c.loop-cycles.invariant.held p runs h)) }

-- where the loop stood
module _ (g : Over) (c : After-time_once g) (p : Plan) (runs : List (Option ModuleRun))
    (h : IsHeldOf p c.args.engine.now runs c.args.owner c.args.limit) where
  abbrev first : CoreView
  first = view_in p c.args.engine.now runs

  abbrev before : CoreView
  before = view_in p c.loop-cycles.engine runs

  abbrev after : CoreView
  after = view_in p c.time_once.new.engine runs

  held : IsHeldOf p c.loop-cycles.engine runs c.args.owner c.args.limit
  held = c.loop-cycles.invariant.held p runs h

  none : c.loop-cycles.cycles ≡ 0 → (before ≡ first) × (c.loop-cycles.steps ≡ c.args.steps.now)
  none e =
      let ticks = c.loop-cycles.invariant.ticks in
      (ap (λ (s : Engine). view_in p s runs) (c.loop-cycles.invariant.none e), omega (arith, e))

  some : 0 < c.loop-cycles.cycles → TimesOn first c.args.steps.now c.args.owner c.loop-cycles.answers before c.loop-cycles.steps
  some l = c.loop-cycles.invariant.some l p runs h

pub returns-in-Differs-clause-leads : goal.returns-in-Differs-clause-leads
returns-in-Differs-clause-leads g c = λ p runs h.
    let at = (goal.at.returns-in-Differs-clause-leads g c).After-time_once in
    let found = c.in-Differs.ensures.done p runs (held g at p runs h) in
    stretched.times_stopped c.loop-cycles.cycles c.acted_or.result (Differs c.in-Differs.query) _ _ _ c.args.steps.now
    c.loop-cycles.steps c.time_once.new.steps c.args.owner c.loop-cycles.answers c.acted_or.ensures.some c.acted_or.ensures.none
    (none g at p runs h)
    (some g at p runs h) found.0 found.1 found

pub returns-in-Differs-clause-ticks : goal.returns-in-Differs-clause-ticks
returns-in-Differs-clause-ticks g c =
    let (p, (runs, h)) = c.requires.held in
    let at = (goal.at.returns-in-Differs-clause-ticks g c).After-time_once in
    (c.in-Differs.ensures.done p runs (held g at p runs h)).1 ∙ c.loop-cycles.invariant.ticks

pub returns-in-Nothing-clause-ticks : goal.returns-in-Nothing-clause-ticks
returns-in-Nothing-clause-ticks g c =
    let (p, (runs, h)) = c.requires.held in
    let at = (goal.at.returns-in-Nothing-clause-ticks g c).After-time_once in
    (c.in-Nothing.ensures.done p runs (held g at p runs h)).1 ∙ c.loop-cycles.invariant.ticks

pub returns-in-Nothing-clause-leads : goal.returns-in-Nothing-clause-leads
returns-in-Nothing-clause-leads g c = λ p runs h.
    let at = (goal.at.returns-in-Nothing-clause-leads g c).After-time_once in
    let found = c.in-Nothing.ensures.done p runs (held g at p runs h) in
    stretched.times_stopped c.loop-cycles.cycles c.acted_or-in-Nothing.result Idle _ _ _ c.args.steps.now
    c.loop-cycles.steps c.time_once.new.steps c.args.owner c.loop-cycles.answers c.acted_or-in-Nothing.ensures.some
    c.acted_or-in-Nothing.ensures.none
    (none g at p runs h) (some g at p runs h) found.0 found.1 found

pub returns-in-Nothing-clause-idle : goal.returns-in-Nothing-clause-idle
returns-in-Nothing-clause-idle g c = λ e p runs h.
    let at = (goal.at.returns-in-Nothing-clause-idle g c).After-time_once in
    let found = c.in-Nothing.ensures.done p runs (held g at p runs h) in
    subst (λ (v : CoreView). IsIdle (design p) p.cycles (theory_of (record v { plan = p })) c.args.owner) (sym found.0) found.2

-- one more was done
module _ (g : Over) (c : After-is_timed g) where
  ticked : c.time_once.new.steps ≡ c.args.steps.now + (c.loop-cycles.cycles + 1)
  ticked =
      let before = c.loop-cycles.invariant.ticks in
      elim c.match-time_once.branch [
        | in-Assigned w ↦ let one = w.in-Assigned.ensures.ticks refl in omega arith
        | in-Answered w ↦ let one = w.in-Answered.ensures.ticks refl in omega arith
      ]

  few : c.match-time_once.answers ≤ c.loop-cycles.cycles + 1
  few =
      let before = c.loop-cycles.invariant.few in
      elim c.match-time_once.branch [
        | in-Assigned w ↦ let same = w.answers-is in omega arith
        | in-Answered w ↦ let more = w.answers-is in omega arith
      ]

  module _ (p : Plan) (runs : List (Option ModuleRun))
      (held : IsHeldOf p c.loop-cycles.engine runs c.args.owner c.args.limit)
      (none : c.loop-cycles.cycles ≡ 0
      → (view_in p c.loop-cycles.engine runs ≡ view_in p c.args.engine.now runs) × (c.loop-cycles.steps ≡ c.args.steps.now))
      (some : 0 < c.loop-cycles.cycles → TimesOn (view_in p c.args.engine.now runs) c.args.steps.now c.args.owner
      c.loop-cycles.answers (view_in p c.loop-cycles.engine runs) c.loop-cycles.steps) where
    none_yet : c.loop-cycles.cycles ≡ 0 → (view_in p c.loop-cycles.engine runs ≡ view_in p c.args.engine.now runs)
        × (c.loop-cycles.steps ≡ c.args.steps.now) × (c.loop-cycles.answers ≡ 0)
    none_yet e = let (same, ticks) = none e in let few = c.loop-cycles.invariant.few in (same, ticks, omega (arith, e))

    more : TimesOn (view_in p c.args.engine.now runs) c.args.steps.now c.args.owner c.match-time_once.answers
        (view_in p c.time_once.new.engine runs) c.time_once.new.steps
    more =
        elim c.match-time_once.branch [
          | in-Assigned w ↦
              stretched.times_next c.loop-cycles.cycles _ _ _ c.args.steps.now c.loop-cycles.steps c.time_once.new.steps c.args.owner
              c.loop-cycles.answers 0 c.match-time_once.answers (let same = w.answers-is in omega arith) none_yet some
              (w.in-Assigned.ensures.done p runs held)
          | in-Answered w ↦
              stretched.times_next c.loop-cycles.cycles _ _ _ c.args.steps.now c.loop-cycles.steps c.time_once.new.steps c.args.owner
              c.loop-cycles.answers 1 c.match-time_once.answers w.answers-is none_yet some (w.in-Answered.ensures.done p runs held)
        ]

pub returns-then-is_timed-clause-leads : goal.returns-then-is_timed-clause-leads
returns-then-is_timed-clause-leads g c = λ p runs h.
    let at = (goal.at.returns-then-is_timed-clause-leads g c).After-time_once in
    more g (goal.at.returns-then-is_timed-clause-leads g c).After-is_timed p runs (held g at p runs h)
    (none g at p runs h) (some g at p runs h)

pub returns-then-is_timed-clause-ticks : goal.returns-then-is_timed-clause-ticks
returns-then-is_timed-clause-ticks g c = ticked g (goal.at.returns-then-is_timed-clause-ticks g c).After-is_timed

pub returns-then-is_timed-clause-answers : goal.returns-then-is_timed-clause-answers
returns-then-is_timed-clause-answers g c = few g (goal.at.returns-then-is_timed-clause-answers g c).After-is_timed

pub loop-cycles-preserved : goal.loop-cycles-preserved
loop-cycles-preserved g c = record {
  held = λ p runs h. c.time_once.ensures.held p runs (c.loop-cycles.invariant.held p runs h);
  ends = c.time_once.ensures.ends ∙ c.loop-cycles.invariant.ends;
  none = λ e. absurd (omega (arith, e));
  ticks = ticked g (goal.at.loop-cycles-preserved g c).After-is_timed;
  few = few g (goal.at.loop-cycles-preserved g c).After-is_timed;
  some = λ l p runs h.
      let at = (goal.at.loop-cycles-preserved g c).After-time_once in
      more g (goal.at.loop-cycles-preserved g c).After-is_timed p runs (held g at p runs h) (none g at p runs h)
      (some g at p runs h);
  most = let l = c.loop-cycles-test.true in omega arith;
}
