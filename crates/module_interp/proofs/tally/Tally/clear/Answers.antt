use Rattle.std.proofs.Common.{refl}
use Rattle.module_interp.proofs.Tallies.{tally_none}
use Rattle.module_interp.proofs.tally.Tally.clear.Goals as goal

pub returns-clause-tally : goal.returns-clause-tally
returns-clause-tally c =
    let (before, h) = c.requires.tally in
    tally_none _ (c.clear.ensures.sound h.popped_sound) (c.clear-2.ensures.sound h.pushed_sound) c.clear.ensures.none
    c.clear-2.ensures.none refl
