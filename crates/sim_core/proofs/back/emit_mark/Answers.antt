use Rattle.std.proofs.Common.{refl, sym, subst, ◌∙◌, List, Option, length}
use Rattle.std.proofs.lemmas.Result.{IfOk-from_err}
use Rattle.sim_core.specs.{Plan, ModuleRun, IsSoundMark, CanGoOn, IsNextMark, core_in, rest_after}
use Rattle.flow_design.specs.declared.state.Advance.TheVariants.{Step}
use Rattle.sim_core.proofs.{Stretching.on_err, back.emit_mark.Goals.After-queries}
use Rattle.sim_core.proofs.Emitting as emitting
use Rattle.sim_core.proofs.back.emit_mark.Goals as goal

-- the step that was listed is the next mark
next_few : (c : After-queries) (p : Plan) (runs : List (Option ModuleRun))
    → CanGoOn p c.args.engine.now runs c.args.owner c.args.run.now
    → IsNextMark p c.args.engine.now runs c.args.owner
    (Step (record { gap = c.gap.result; accesses = c.listed.result.now; first_query = c.queries.result }))
next_few c p runs n =
    let s = c.args.engine.now in
    let rest = rest_after p (core_in p s) c.args.owner ((core_in p s).emitted c.args.owner) in
    let stands = emitting.stands n in
    let listed = emitting.as_listed c.advance_few.new.self c.gap.ensures c.listed.ensures c.queries.ensures.listed in
    emitting.is_next n (listed ∙ c.in_ok-advance_few.ensures.mark c.if-branch.true p c.args.owner rest stands)
    (subst (IsSoundMark (length rest.steps)) (sym listed) (c.in_ok-advance_few.ensures.sound c.if-branch.true p c.args.owner rest stands))

pub record_mark-requires-clause-few : goal.record_mark-requires-clause-few
record_mark-requires-clause-few c =
    emitting.as_few c.advance_few.new.self c.gap.ensures c.listed.ensures c.queries.ensures.listed
    (c.in_ok-advance_few.ensures.few c.if-branch.true)

pub record_mark-requires-clause-next : goal.record_mark-requires-clause-next
record_mark-requires-clause-next c =
    let (p, (runs, n)) = c.requires in (p, (runs, next_few (goal.at.record_mark-requires-clause-next c).After-queries p runs n))

pub emit_given-requires-clause-ready : goal.emit_given-requires-clause-ready
emit_given-requires-clause-ready c =
    let (p, (runs, n)) = c.requires in (
      p,
      (runs, emitting.still_goes n c.advance_few.ensures.stands (c.in_ok-advance_few.ensures.waits ∙ c.if-branch.false)),
    )

-- a run that could not go on stands where it stood
pub returns-in_err-advance_few : goal.returns-in_err-advance_few
returns-in_err-advance_few c = record {
  emits = λ p runs n. IfOk-from_err c.from_residual.result _ c.from_residual.ensures.0;
  run = λ p runs n. emitting.run_kept n c.advance_few.ensures.stands c.in_err-advance_few.ensures.as_before;
  unchanged = on_err c.from_residual.result refl;
}

pub returns-then-branch : goal.returns-then-branch
returns-then-branch c =
    let at = (goal.at.returns-then-branch c).After-queries in
    record {
      emits = λ p runs n. c.record_mark.ensures.emits p runs (next_few at p runs n);
      run = λ p runs n.
          let next = next_few at p runs n in
          emitting.run_after n c.advance_few.ensures.stands next (c.in_ok-advance_few.ensures.waits ∙ c.if-branch.true)
          (c.record_mark.ensures.emits p runs next).acts;
      unchanged = tt;
    }

pub returns : goal.returns
returns c =
    let waits = c.in_ok-advance_few.ensures.waits ∙ c.if-branch.false in
    record {
      emits = λ p runs n. c.emit_given.ensures.emits p runs (emitting.still_goes n c.advance_few.ensures.stands waits);
      run = λ p runs n. c.emit_given.ensures.run p runs (emitting.still_goes n c.advance_few.ensures.stands waits);
      unchanged = c.emit_given.ensures.unchanged;
    }
