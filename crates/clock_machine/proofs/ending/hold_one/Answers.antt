use Rattle.std.proofs.Common.{arith, refl, sym, ◌∙◌}
use Rattle.clock_machine.specs.{module_at}
use Rattle.clock_machine.proofs.Moving.{sound_of}
use Rattle.clock_machine.proofs.ending.hold_one.Goals as goal

pub note_one-requires-clause-sound : goal.note_one-requires-clause-sound
note_one-requires-clause-sound c =
    sound_of c.args.of.now.plan.now c.requires.fit.clock c.args.state.now c.args.i (module_at c.args.of.now.plan.now c.args.i)
    c.state_at-module.result.now c.requires.fit.fit (omega arith)
    refl c.state_at-module.ensures (sym c.is_over.ensures ∙ c.if-is_over.false)
