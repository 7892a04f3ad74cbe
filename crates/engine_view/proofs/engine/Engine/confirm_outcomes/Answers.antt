use Rattle.std.proofs.Common.{◌≡◌, refl, sym, ap, ◌∙◌, ℕ, List, arith}
use Rattle.std.proofs.lemmas.List.{get_or-set_other}
use Rattle.engine_view.specs.{ModuleState, Access, Step, Design, IsDesign, no_log, step_of, queries_in, held_in, IsKept, first_of, in_lane}
use Rattle.engine_view.proofs.{Unsure.IsUnsure, Unsure.answered_on, Roomy.few_queries, Resolving.first_is, Confirming.unsure_in}
use Rattle.engine_view.proofs.{Confirming.recorded_in, engine.Engine.confirm_outcomes.Goals.After-look-step}
use Rattle.engine_view.proofs.Confirming as confirming
use Rattle.engine_view.proofs.engine.Engine.confirm_outcomes.Goals as goal

-- the module's first step without a cycle
module _ (c : After-look-step) where
  step : step_of (held_in c.args.self.now) c.args.owner (first_of (held_in c.args.self.now) c.args.owner) ≡ in_lane c.look-step.result
  step = first_is (held_in c.args.self.now) c.args.owner c.frontier.ensures.count c.look-step.ensures.step

  unsure : {d : Design ModuleState} → IsDesign d → IsKept d (held_in c.args.self.now)
      → IsUnsure d (held_in c.args.self.now) c.args.owner
  unsure i k = unsure_in c.args.self.now c.requires.unsure i k

  queries : {xs : List Access} {n : ℕ} → n ≡ queries_in xs → xs ≡ (in_lane c.look-step.result).accesses
      → n ≡ queries_in (step_of (held_in c.args.self.now) c.args.owner (first_of (held_in c.args.self.now) c.args.owner)).accesses
  queries e same = e ∙ (ap queries_in same ∙ ap (λ (t : Step). queries_in t.accesses) (sym step))

pub compare_outcomes-requires-clause-owner : goal.compare_outcomes-requires-clause-owner
compare_outcomes-requires-clause-owner c =
    let at = (goal.at.compare_outcomes-requires-clause-owner c).After-look-step in
    let (d, i, k, r) = c.requires.core in
    confirming.again_owner (unsure at i k) c.args.cycle

pub compare_outcomes-requires-clause-inside : goal.compare_outcomes-requires-clause-inside
compare_outcomes-requires-clause-inside c =
    let at = (goal.at.compare_outcomes-requires-clause-inside c).After-look-step in
    let (d, i, k, r) = c.requires.core in
    rw (ap (λ (t : Step). t.accesses) (step at)) at (confirming.again_inside (unsure at i k) c.args.cycle)

pub compare_outcomes-requires-clause-places : goal.compare_outcomes-requires-clause-places
compare_outcomes-requires-clause-places c = let (d, i, k, r) = c.requires.core in k.sound.places

pub compare_outcomes-requires-clause-few : goal.compare_outcomes-requires-clause-few
compare_outcomes-requires-clause-few c =
    let at = (goal.at.compare_outcomes-requires-clause-few c).After-look-step in
    let (d, i, k, r) = c.requires.core in
    let few = confirming.again_few (unsure at i k) c.args.cycle r in
    let first = ap (λ (t : Step). t.first_query) (step at) in
    let short = c.look-step.ensures.sound.accesses in
    omega arith

pub queries_among-queries-requires : goal.queries_among-queries-requires
queries_among-queries-requires c = let short = c.look-step.ensures.sound.accesses in omega arith

pub verify_up_to-requires-clause-owner : goal.verify_up_to-requires-clause-owner
verify_up_to-requires-clause-owner c =
    let at = (goal.at.verify_up_to-requires-clause-owner c).After-look-step in
    let (d, i, k, r) = c.requires.core in
    confirming.again_owner (unsure at i k) c.args.cycle

pub verify_up_to-requires-clause-recorded : goal.verify_up_to-requires-clause-recorded
verify_up_to-requires-clause-recorded c =
    let at = (goal.at.verify_up_to-requires-clause-recorded c).After-look-step in
    let (d, i, k, r) = c.requires.core in
    let there = recorded_in c.args.self.now c.requires.unsure i k c.requires.recorded in
    let first = ap (λ (t : Step). t.first_query) (step at) in
    let count = queries at c.queries_among-queries.ensures refl in
    let all = confirming.again_recorded (unsure at i k) c.args.cycle there in
    omega arith

pub overflow_add-step : goal.overflow_add-step
overflow_add-step c =
    let at = (goal.at.overflow_add-step c).After-look-step in
    let (d, i, k, r) = c.requires.core in
    let few = confirming.again_few (unsure at i k) c.args.cycle r in
    let first = ap (λ (t : Step). t.first_query) (step at) in
    let count = c.queries_among-queries.ensures in
    let most = few_queries (in_lane c.look-step.result).accesses in
    let short = c.look-step.ensures.sound.accesses in
    omega arith

pub returns-in-Same-clause-answered : goal.returns-in-Same-clause-answered
returns-in-Same-clause-answered c = λ d i k.
    let at = (goal.at.returns-in-Same-clause-answered c).After-look-step in
    let f = unsure at i k in
    let there = recorded_in c.args.self.now c.requires.unsure i k c.requires.recorded in
    let first = ap (λ (t : Step). t.first_query) (step at) in
    let again = confirming.flags_at_step f c.args.cycle (ap (λ (t : Step). t.accesses) (step at)) first (c.in-Same.ensures.same refl) in
    let count = queries at c.queries_among-queries.ensures refl in
    rw (confirming.again_after f c.args.cycle there again (omega arith) c.verify_up_to.ensures.logs)
    (answered_on d (held_in c.args.self.now) c.args.owner c.args.cycle _ f (λ e. again)
    (confirming.again_core f c.args.cycle there again))

pub returns-in-Same-clause-room : goal.returns-in-Same-clause-room
returns-in-Same-clause-room c = record {
  ends = refl;
  credits = refl;
  room = λ d i k r.
      let at = (goal.at.returns-in-Same-clause-room c).After-look-step in
      let f = unsure at i k in
      let there = recorded_in c.args.self.now c.requires.unsure i k c.requires.recorded in
      let first = ap (λ (t : Step). t.first_query) (step at) in
      let again = confirming.flags_at_step f c.args.cycle (ap (λ (t : Step). t.accesses) (step at)) first (c.in-Same.ensures.same refl) in
      let count = queries at c.queries_among-queries.ensures refl in
      rw (confirming.again_after f c.args.cycle there again (omega arith) c.verify_up_to.ensures.logs, c.verify_up_to.ensures.rooms)
      (confirming.room_again f c.args.cycle there again r);
}

pub returns-in-Same-clause-others : goal.returns-in-Same-clause-others
returns-in-Same-clause-others c = λ m apart.
    rw c.verify_up_to.ensures.logs (get_or-set_other c.args.self.now.log.logs c.args.owner m _ no_log apart)

pub returns-in-Differs-clause-answered : goal.returns-in-Differs-clause-answered
returns-in-Differs-clause-answered c = (
  refl,
  λ d i k.
      let at = (goal.at.returns-in-Differs-clause-answered c).After-look-step in
      record {
        recorded = recorded_in c.args.self.now c.requires.unsure i k c.requires.recorded;
        other = confirming.other_at_step (unsure at i k) c.args.cycle (ap (λ (t : Step). t.accesses) (step at))
            (ap (λ (t : Step). t.first_query) (step at)) (c.in-Differs.ensures.differs c.in-Differs.query refl);
      },
)
