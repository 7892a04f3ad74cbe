use Rattle.std.proofs.Common.{refl, suc}
use Rattle.path_check.proofs.waits.find_lag.Goals as goal

pub loop-access-preserved : goal.loop-access-preserved
loop-access-preserved c = λ lag w. c.loop-access.invariant lag (rw c.in-Some.ensures.steps (record {
  number = suc w.number;
  access = w.access;
  among = w.among;
  waits = w.waits;
}))

pub returns-in-Some-lag_after : goal.returns-in-Some-lag_after
returns-in-Some-lag_after c = c.loop-access.invariant c.in-Some-lag_after.lag (rw c.in-Some.ensures.steps (record {
  number = 0;
  access = c.in-Some.access;
  among = refl;
  waits = c.in-Some-lag_after.ensures;
}))
