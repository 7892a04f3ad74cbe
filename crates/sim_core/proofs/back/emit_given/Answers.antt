use Rattle.std.proofs.{Common.refl, Common.List, Common.Option, lemmas.Result.IfOk-from_err}
use Rattle.sim_core.specs.{Plan, ModuleRun, CanGoOn, IsNextMark}
use Rattle.sim_core.proofs.{Stretching.on_err, back.emit_given.Goals.In_ok-mark}
use Rattle.sim_core.proofs.Emitting as emitting
use Rattle.sim_core.proofs.back.emit_given.Goals as goal

-- the mark that was given is the next one
next_given : (c : In_ok-mark) (p : Plan) (runs : List (Option ModuleRun))
    → CanGoOn p c.args.engine.now runs c.args.owner c.args.run.now
    → IsNextMark p c.args.engine.now runs c.args.owner c.in_ok-mark.mark
next_given c p runs n =
    emitting.is_next n (c.in_ok-mark.ensures.mark p c.args.owner _ (emitting.stands n))
    (c.in_ok-mark.ensures.sound p c.args.owner _ (emitting.stands n))

pub give-requires-clause-stands : goal.give-requires-clause-stands
give-requires-clause-stands c =
    let (p, (runs, n)) = c.requires.ready in (p, (c.args.owner, (_, emitting.stands n)))

pub record_mark-requires-clause-next : goal.record_mark-requires-clause-next
record_mark-requires-clause-next c =
    let (p, (runs, n)) = c.requires.ready in (p, (runs, next_given (goal.at.record_mark-requires-clause-next c).In_ok-mark p runs n))

-- a run that could not go on stands where it stood
pub returns-in_err-mark : goal.returns-in_err-mark
returns-in_err-mark c = record {
  emits = λ p runs n. IfOk-from_err c.from_residual.result _ c.from_residual.ensures.0;
  run = λ p runs n. emitting.run_kept n c.give.ensures.stands c.in_err-mark.ensures.as_before;
  unchanged = on_err c.from_residual.result refl;
}

pub returns : goal.returns
returns c =
    let at = (goal.at.returns c).In_ok-mark in
    record {
      emits = λ p runs n. c.record_mark.ensures.emits p runs (next_given at p runs n);
      run = λ p runs n.
          let next = next_given at p runs n in
          emitting.run_after n c.give.ensures.stands next c.in_ok-mark.ensures.waits (c.record_mark.ensures.emits p runs next).acts;
      unchanged = tt;
    }
