use Rattle.std.proofs.Common.{◌∙◌, arith}
use Rattle.cycle_changes.proofs.puts.put_all.Goals as goal

pub returns-then-not-put_drafted-clause-puts : goal.returns-then-not-put_drafted-clause-puts
returns-then-not-put_drafted-clause-puts g c = λ first are. c.put_drafted.ensures.puts first (c.loop-before.invariant.puts first are)

pub loop-before-preserved : goal.loop-before-preserved
loop-before-preserved g c = record {
  puts = λ first are. c.put_drafted.ensures.puts first (c.loop-before.invariant.puts first are);
  rooms = c.put_drafted.ensures.rooms ∙ c.loop-before.invariant.rooms;
  ticks = let t = c.put_drafted.ensures.ticks in let b = c.loop-before.invariant.ticks in omega arith;
}
