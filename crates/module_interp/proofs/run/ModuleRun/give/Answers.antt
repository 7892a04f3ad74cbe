use Rattle.std.proofs.Common.{sym, ◌∙◌}
use Rattle.module_interp.specs.{done_in}
use Rattle.module_interp.proofs.{Listing.few_before, Listing.listed_stands, Listing.listed_mark, Listing.listed_sound, Sound.sound_mark}
use Rattle.module_interp.proofs.Listing as listing
use Rattle.module_interp.proofs.run.ModuleRun.give.Goals as goal

pub returns-then-path-clause-stands : goal.returns-then-path-clause-stands
returns-then-path-clause-stands c p i o s =
    listing.rest_stands p i o c.args.self.now s _ c.as_mut-path.ensures.value c.requires.rests _

pub returns-then-path-clause-mark : goal.returns-then-path-clause-mark
returns-then-path-clause-mark c p i o s =
    listing.rest_ended p i o c.args.self.now s _ c.as_mut-path.ensures.value c.requires.rests c.if-path.true

pub returns-then-path-clause-waits : goal.returns-then-path-clause-waits
returns-then-path-clause-waits c = listing.rest_unasked c.args.self.now _ c.as_mut-path.ensures.value c.requires.rests

pub returns-then-path-clause-sound : goal.returns-then-path-clause-sound
returns-then-path-clause-sound c p i o s = sound_mark p i o c.args.self.now _ s (returns-then-path-clause-mark c p i o s) tt

pub returns-then-is_over-clause-stands : goal.returns-then-is_over-clause-stands
returns-then-is_over-clause-stands c p i o s =
    listing.rest_stands p i o c.args.self.now s _ c.as_mut-path.ensures.value c.requires.rests _

pub returns-then-is_over-clause-mark : goal.returns-then-is_over-clause-mark
returns-then-is_over-clause-mark c p i o s =
    listing.rest_spent p i o c.args.self.now s _ c.as_mut-path.ensures.value c.requires.rests c.if-path.false
    (sym c.is_over.ensures ∙ c.if-is_over.true)

pub returns-then-is_over-clause-waits : goal.returns-then-is_over-clause-waits
returns-then-is_over-clause-waits c = listing.rest_unasked c.args.self.now _ c.as_mut-path.ensures.value c.requires.rests

pub returns-then-is_over-clause-sound : goal.returns-then-is_over-clause-sound
returns-then-is_over-clause-sound c p i o s = sound_mark p i o c.args.self.now _ s (returns-then-is_over-clause-mark c p i o s) tt

pub number_all-requires : goal.number_all-requires
number_all-requires c =
    let (p, (i, (o, s))) = c.requires.stands in
    let step = listing.alive_step c.args.self.now.path.value _ c.as_mut-path.ensures.value c.requires.rests
    (sym c.is_over.ensures ∙ c.if-is_over.false) in
    record { tally = (done_in o.steps, (s.tally, few_before p i o c.args.self.now s _ c.as_mut-path.ensures.value step)) }

pub returns-in_err-accesses-clause-stands : goal.returns-in_err-accesses-clause-stands
returns-in_err-accesses-clause-stands c p i o s =
    listing.rest_stands p i o c.args.self.now s _ c.as_mut-path.ensures.value c.requires.rests c.number_all.new.accesses

pub returns-in_err-accesses-clause-as_before : goal.returns-in_err-accesses-clause-as_before
returns-in_err-accesses-clause-as_before c =
    listing.on_err c.from_residual.result (listing.rest_unasked c.args.self.now _ c.as_mut-path.ensures.value c.requires.rests)

pub returns-clause-stands : goal.returns-clause-stands
returns-clause-stands c p i o s =
    let step = listing.alive_step c.args.self.now.path.value _ c.as_mut-path.ensures.value c.requires.rests
    (sym c.is_over.ensures ∙ c.if-is_over.false) in
    listed_stands p i o c.args.self.now s _ c.as_mut-path.ensures.value step c.number_all.new.accesses c.number_all.ensures

pub returns-clause-mark : goal.returns-clause-mark
returns-clause-mark c p i o s =
    let step = listing.alive_step c.args.self.now.path.value _ c.as_mut-path.ensures.value c.requires.rests
    (sym c.is_over.ensures ∙ c.if-is_over.false) in
    listed_mark p i o c.args.self.now s _ c.as_mut-path.ensures.value step c.number_all.new.accesses c.number_all.ensures
    c.in_ok-accesses.accesses (c.in_ok-accesses.ensures ∙ c.as_slice.ensures)

pub returns-clause-sound : goal.returns-clause-sound
returns-clause-sound c p i o s =
    let step = listing.alive_step c.args.self.now.path.value _ c.as_mut-path.ensures.value c.requires.rests
    (sym c.is_over.ensures ∙ c.if-is_over.false) in
    listed_sound p i o c.args.self.now s _ c.as_mut-path.ensures.value step c.number_all.new.accesses c.number_all.ensures
    c.in_ok-accesses.accesses (c.in_ok-accesses.ensures ∙ c.as_slice.ensures)
