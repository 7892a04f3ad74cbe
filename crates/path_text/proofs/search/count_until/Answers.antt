use Rattle.std.proofs.Common.{◌+◌, ◌-◌, ◌/◌, ◌<◌, arith, get_or}
use Rattle.path_text.specs.{find_clock}
use Rattle.path_text.proofs.Searched.{later_middle, no_find}
use Rattle.path_text.proofs.search.count_until.Goals as goal

pub loop-low-preserved : goal.loop-low-preserved
loop-low-preserved c =
    let x = c.loop-low.invariant in
    let within = x.within in
    let finds = c.args.finds.now in
    let middle = c.loop-low.low + (c.loop-low.high - c.loop-low.low) / 2 in
    let later : c.args.clock < find_clock (get_or finds middle no_find) = omega (arith, c.if-finds-middle.false) in
    record {
      within = omega (arith, c.loop-low-test.true);
      above = later_middle finds c.requires middle c.args.clock no_find (omega (arith, c.loop-low-test.true)) later;
    }
