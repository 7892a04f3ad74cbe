use Rattle.std.proofs.Common.{map}
use Rattle.vcd_wave.specs.{change_of}
use Rattle.vcd_wave.proofs.LineLemmas.{instant_none, none_told}
use Rattle.vcd_wave.proofs.lines.print_instant.Goals as goal

pub returns-else-some-clause-text : goal.returns-else-some-clause-text
returns-else-some-clause-text c =
    instant_none c.args.text.now c.args.clock (map change_of c.args.changes.now) (none_told c.args.changes.now c.if-some.ensures)
