use Rattle.std.proofs.Common.{arith}
use Rattle.vcd_wave.proofs.Prefixes.{names_end, names_stuck, names_more, names_on, name_long}
use Rattle.vcd_wave.proofs.header.names_in.Goals as goal

pub returns-in-Some-clause-all : goal.returns-in-Some-clause-all
returns-in-Some-clause-all c = λ m r h.
    names_end c.loop-end.count c.loop-end.rest.now c.in-Some.end.now m r (omega arith) c.in-Some.ensures.some
    (c.loop-end.invariant.1 m r h)

pub returns-in_err-rest-in-None-clause-all : goal.returns-in_err-rest-in-None-clause-all
returns-in_err-rest-in-None-clause-all c = λ m r h.
    absurd (names_stuck c.loop-end.count c.loop-end.rest.now m r (omega arith) c.in-None.ensures.all
    c.in_err-rest-in-None.ensures.all (c.loop-end.invariant.1 m r h))

pub loop-end-preserved : goal.loop-end-preserved
loop-end-preserved c =
    let some = c.in_ok-rest-in-None.ensures.some in (
      (λ m r h. c.loop-end.invariant.0 m r
          (names_more c.loop-end.count c.loop-end.rest.now some.0 c.in_ok-rest-in-None.rest.now m r (omega arith) some.1 some.2 h)),
      (λ m r h. names_on c.loop-end.count c.loop-end.rest.now some.0 c.in_ok-rest-in-None.rest.now m r (omega arith) some.2
          c.in_ok-rest-in-None.ensures.all (c.loop-end.invariant.1 m r h)),
      omega (arith, c.loop-end.invariant.2, name_long c.loop-end.count c.loop-end.rest.now some.0 c.in_ok-rest-in-None.rest.now some.2),
    )
