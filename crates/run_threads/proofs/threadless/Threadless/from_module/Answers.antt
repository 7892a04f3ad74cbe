use Rattle.std.proofs.Common.{arith}
use Rattle.run_threads.proofs.threadless.Threadless.from_module.Goals as goal

pub returns : goal.returns
returns c = λ m. (
  λ named. let (from, below, inside) = (c.loop-which.invariant m).0 named in (from, inside),
  λ inside. (c.loop-which.invariant m).1 (inside.0, (let u = inside.1 in let t = c.loop-which-test.false in omega arith), inside.1),
)
