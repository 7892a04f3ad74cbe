use Rattle.std.proofs.Common.{length, ap, arith}
use Rattle.vcd_wave.proofs.Scanning.{leads_more, leads_on, no_line, no_step, no_more, shorter}
use Rattle.engine_report.proofs.Sinks.{nothing as is_nothing}
use Rattle.vcd_wave.proofs.scan.scan_lines.Goals as goal

pub loop-rest-smaller : goal.loop-rest-smaller
loop-rest-smaller c = shorter c.in_ok-line.line c.loop-rest.rest.now c.in_ok-line.after.now c.in_ok-line.ensures.some.0

pub returns-in_err-line-clause-all : goal.returns-in_err-line-clause-all
returns-in_err-line-clause-all c = λ r h.
    absurd (no_line c.args.asked c.loop-rest.scan c.loop-rest.rest.now r (λ e. let z = ap length e in grind (arith, z))
    c.in_err-line.ensures.all (c.loop-rest.invariant.1 r h))

pub returns-in_err-scan-clause-all : goal.returns-in_err-scan-clause-all
returns-in_err-scan-clause-all c = λ r h.
    absurd (no_step c.args.asked c.loop-rest.scan c.loop-rest.rest.now c.in_ok-line.after.now c.in_ok-line.line r
    (λ e. let z = ap length e in grind (arith, z))
    c.in_ok-line.ensures.all (c.in_err-scan.ensures {u = tt}) (c.loop-rest.invariant.1 r h))

pub loop-rest-preserved : goal.loop-rest-preserved
loop-rest-preserved c = (
  (λ r h. c.loop-rest.invariant.0 r
      (leads_more c.args.asked c.loop-rest.scan c.in_ok-scan.scan c.in_ok-line.line c.loop-rest.rest.now c.in_ok-line.after.now r
      c.in_ok-line.ensures.some.0 c.in_ok-line.ensures.some.1 c.in_ok-scan.ensures h)),
  (λ r h. leads_on c.args.asked c.loop-rest.scan c.in_ok-scan.scan c.loop-rest.rest.now c.in_ok-line.after.now c.in_ok-line.line r
      (λ e. let z = ap length e in grind (arith, z))
      c.in_ok-line.ensures.all c.in_ok-scan.ensures (c.loop-rest.invariant.1 r h)),
)

pub returns-clause-some : goal.returns-clause-some
returns-clause-some c =
    c.loop-rest.invariant.0 c.loop-rest.scan (no_more c.args.asked c.loop-rest.scan c.loop-rest.rest.now
    (is_nothing c.loop-rest.rest.now (grind arith)))
