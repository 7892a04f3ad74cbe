use Rattle.vcd_wave.proofs.Prefixes.{front_taken}
use Rattle.vcd_wave.proofs.header.after.Goals as goal

pub returns-then-starts_with-clause-some : goal.returns-then-starts_with-clause-some
returns-then-starts_with-clause-some c = front_taken c.args.text.now c.args.prefix.now c.if-starts_with.ensures.value
