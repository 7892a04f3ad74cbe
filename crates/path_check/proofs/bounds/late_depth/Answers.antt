use Rattle.std.proofs.Common.{arith, rules}
use Rattle.path_check.proofs.Shown.{late_shown}
use Rattle.path_check.proofs.bounds.late_depth.Goals as goal

pub returns-then-ends_after : goal.returns-then-ends_after
returns-then-ends_after c = λ p f quiet same fifo.
    late_shown p c.args.engine.now f
    quiet c.args.target.now.channel c.in-Some.few.depth c.args.target.now.clock fifo
    (omega (arith, c.len.ensures, c.if-len-channel.false)) (c.is_fifo.ensures.0 c.if-not-is_fifo.false)
    (search rules) (omega (arith, c.depth.ensures.depth)) c.args.depths.now same (λ t. c.ends_after.ensures c.if-ends_after.true p t)
