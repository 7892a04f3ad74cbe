use Rattle.std.proofs.Common.{◌∙◌, sym, subst, ap}
use Rattle.flow_design.specs.declared.design.Module.{Module}
use Rattle.clock_machine.specs.{block_of, module_at, no_module, requests, BlockCode, IsBlockCodeOf, AreNotesOf, HasCode}
use Rattle.clock_machine.proofs.asking.note_one.Goals as goal

pub note-requires-clause-code : goal.note-requires-clause-code
note-requires-clause-code c =
    let p = c.args.of.now.plan.now in (
      p.design.channels,
      subst (λ (m : Module). HasCode p.design.channels m c.args.state.now c.code_at.result.now) (sym c.module_at.ensures)
          (record { of = c.fits.ensures.modules c.args.i no_module c.requires.within; code_is = c.code_at.ensures.own }),
    )

pub returns-clause-asked : goal.returns-clause-asked
returns-clause-asked c =
    let p = c.args.of.now.plan.now in
    let s = c.args.state.now in
    let code = c.code_at.result.now in
    c.in_ok-note.ensures.asked p.design.channels
    (subst (λ (m : Module). IsBlockCodeOf p.design.channels m (block_of m s) code) (sym c.module_at.ensures) c.code_at.ensures.own)
    ∙ ap (λ (m : Module). requests p.design.channels m s) c.module_at.ensures

pub returns-clause-noted : goal.returns-clause-noted
returns-clause-noted c d =
    let p = c.args.of.now.plan.now in
    let s = c.args.state.now in
    let code = c.code_at.result.now in
    subst (λ (b : BlockCode). AreNotesOf (module_at p c.args.i) s b c.note.new.notes) (c.code_at.ensures.code d)
    (subst (λ (m : Module). AreNotesOf m s code c.note.new.notes) c.module_at.ensures
    (record { in_code = c.in_ok-note.ensures.notes; are = c.in_ok-note.ensures.noted }))
