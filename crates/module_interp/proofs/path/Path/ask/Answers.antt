use Rattle.std.proofs.Common.{◌≡◌, ◌∙◌, ◌<◌, ap, subst, arith, List, get_or, length}
use Rattle.std.proofs.lemmas.List.{get_or_default}
use Rattle.module_interp.specs.{BlockCode, AreNotesOf}
use Rattle.module_interp.proofs.{Timing.module_sound, Ways.has_begun, Ways.code_read}
use Rattle.module_interp.proofs.path.Path.ask.Goals as goal

pub note-requires-clause-sound : goal.note-requires-clause-sound
note-requires-clause-sound c = (has_begun c.args.self.now c.requires.path c.requires.begun c.requires.alive).sound

pub note-requires-clause-code : goal.note-requires-clause-code
note-requires-clause-code c =
    let x = c.args.self.now in
    let path = c.requires.path in
    let inside = (has_begun x path c.requires.begun c.requires.alive).sound.state.block in (
      path.plan.design.channels,
      record {
        of = rw path.is.of (module_sound path.plan path.is.fits path.number path.is.owner);
        code_is = code_read x path.is.codes c.as_slice.result.now c.index-as_slice-self.result c.as_slice.ensures
            c.index-as_slice-self.is inside;
      },
    )

pub note-requires-clause-small : goal.note-requires-clause-small
note-requires-clause-small c = omega (arith, (has_begun c.args.self.now c.requires.path c.requires.begun c.requires.alive).clock)

pub returns-clause-asked : goal.returns-clause-asked
returns-clause-asked c = λ channels codes.
    let x = c.args.self.now in
    let inside = (has_begun x c.requires.path c.requires.begun c.requires.alive).sound.state.block in
    c.in_ok-note.ensures.asked channels
    (code_read x codes c.as_slice.result.now c.index-as_slice-self.result c.as_slice.ensures c.index-as_slice-self.is inside)

pub returns-clause-noted : goal.returns-clause-noted
returns-clause-noted c d =
    let x = c.args.self.now in
    let sound = (has_begun x c.requires.path c.requires.begun c.requires.alive).sound in
    let code = c.index-as_slice-self.result in
    let inside : x.state.control.block < length x.codes = omega (arith, sound.state.block, c.requires.path.is.codes.count) in
    let same : code ≡ get_or x.codes x.state.control.block d =
    c.index-as_slice-self.is ∙ (ap (λ (ys : List BlockCode). get_or ys x.state.control.block code) c.as_slice.ensures
    ∙ get_or_default x.codes x.state.control.block code d inside) in
    subst (λ (b : BlockCode). AreNotesOf x.of x.state b c.note.new.notes) same
    (record { in_code = c.in_ok-note.ensures.notes; are = c.in_ok-note.ensures.noted })
