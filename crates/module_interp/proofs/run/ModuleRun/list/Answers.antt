use Rattle.std.proofs.Common.{refl}
use Rattle.module_interp.specs.{done_in}
use Rattle.module_interp.proofs.Listing.{few_before, listed_stands, listed_count, listed_mark, listed_sound}
use Rattle.module_interp.proofs.run.ModuleRun.list.Goals as goal

pub number_all-requires : goal.number_all-requires
number_all-requires c =
    let (p, (i, (o, s))) = c.requires.stands in
    record { tally = (done_in o.steps, (s.tally, few_before p i o c.args.self.now s _ c.as_mut-path.ensures.value c.requires.step)) }

pub returns-clause-stands : goal.returns-clause-stands
returns-clause-stands c p i o s =
    listed_stands p i o c.args.self.now s _ c.as_mut-path.ensures.value c.requires.step c.number_all.new.accesses c.number_all.ensures

pub returns-clause-count : goal.returns-clause-count
returns-clause-count c =
    let (p, (i, (o, s))) = c.requires.stands in
    listed_count p i o c.args.self.now s _ c.as_mut-path.ensures.value c.requires.step c.number_all.new.accesses c.number_all.ensures

pub returns-clause-mark : goal.returns-clause-mark
returns-clause-mark c p i o s =
    listed_mark p i o c.args.self.now s _ c.as_mut-path.ensures.value c.requires.step c.number_all.new.accesses c.number_all.ensures
    _ refl

pub returns-clause-sound : goal.returns-clause-sound
returns-clause-sound c p i o s =
    listed_sound p i o c.args.self.now s _ c.as_mut-path.ensures.value c.requires.step c.number_all.new.accesses c.number_all.ensures
    _ refl
