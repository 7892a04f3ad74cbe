use Rattle.std.proofs.{Common.refl, Common.ap, Common.is_some, Common.arith, lemmas.List.length-map}
use Rattle.engine_view.proofs.Roomy.{used_taken}
use Rattle.sim_core.specs.{taken_at}
use Rattle.sim_core.proofs.Emitting.{not_a_step}
use Rattle.sim_core.proofs.Returning as returning
use Rattle.sim_core.proofs.back.record_whole.Goals as goal

pub emit_step-requires-clause-step : goal.emit_step-requires-clause-step
emit_step-requires-clause-step c =
    let (p, (runs, n)) = c.requires.next in returning.step_fits n c.requires.owner c.in-Step.is

pub returns-in-Step-clause-emits : goal.returns-in-Step-clause-emits
returns-in-Step-clause-emits c p runs n = record {
  core = returning.core_emitted n c.requires.owner c.in-Step.is c.emit_step.ensures.emitted;
  acts = returning.acts_emitted n c.requires.owner c.in-Step.is c.emit_step.ensures.emitted;
}

pub returns-in-Step-clause-places : goal.returns-in-Step-clause-places
returns-in-Step-clause-places c = c.emit_step.ensures.emitted.room.place.own

pub returns-in-Step-clause-ports : goal.returns-in-Step-clause-ports
returns-in-Step-clause-ports c = λ side k.
    rw (ap (taken_at side k) c.in-Step.is) (used_taken c.emit_step.ensures.emitted.room side k)

pub returns-in_default : goal.returns-in_default
returns-in_default c = record {
  emits = λ p runs n. record {
    core = returning.core_ended n c.requires.owner (not_a_step c.args.mark c.in_default.not-Step) c.emit_end.ensures;
    acts = returning.acts_ended n c.requires.owner (not_a_step c.args.mark c.in_default.not-Step) c.emit_end.ensures;
  };
  log = c.emit_end.ensures.log;
  credit = rw c.emit_end.ensures.credits (omega arith);
  lanes = rw c.emit_end.ensures.graph refl;
  places = rw c.emit_end.ensures.graph (omega arith);
  ports = λ side k. rw c.emit_end.ensures.fifos (omega arith);
}

pub emit_end-requires : goal.emit_end-requires
emit_end-requires c =
    let (p, (runs, n)) = c.requires.next in
    let overs = length-map c.args.engine.now.ends.items is_some in
    let all = n.room.core.sound.overs in
    let lanes = n.room.core.sound.lanes in
    let inside = c.requires.owner in
    omega arith
