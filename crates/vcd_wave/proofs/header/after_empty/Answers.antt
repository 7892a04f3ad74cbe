use Rattle.std.proofs.Common.{arith, ◌-◌, ◌+◌, ◌++◌}
use Rattle.vcd_wave.specs.{empty_text}
use Rattle.vcd_wave.proofs.Prefixes.{empty_on, empty_back}
use Rattle.vcd_wave.proofs.header.after_empty.Goals as goal

pub returns-in_err-rest-clause-all : goal.returns-in_err-rest-clause-all
returns-in_err-rest-clause-all c = λ r h.
    absurd (c.in_err-rest.ensures.all (empty_text (c.loop-number.number + 1) (c.args.count - (c.loop-number.number + 1)) ++ r)
    (empty_back c.loop-number.number c.args.count c.loop-number.rest.now r (omega arith) (omega arith) (c.loop-number.invariant.1 r h)))

pub loop-number-preserved : goal.loop-number-preserved
loop-number-preserved c = (
  (λ r h. c.loop-number.invariant.0 r
      (empty_on c.loop-number.number c.args.count c.loop-number.rest.now c.in_ok-rest.rest.now r (omega arith) (omega arith)
      c.in_ok-rest.ensures.some h)),
  (λ r h. c.in_ok-rest.ensures.all (empty_text (c.loop-number.number + 1) (c.args.count - (c.loop-number.number + 1)) ++ r)
      (empty_back c.loop-number.number c.args.count c.loop-number.rest.now r (omega arith) (omega arith) (c.loop-number.invariant.1 r h))),
)
