use Rattle.std.proofs.Common.{◌≡◌, ◌∙◌, sym, ap, arith, true, false, Some, ℕ}
use Rattle.vcd_wave.specs.{Probe}
use Rattle.vcd_wave.proofs.{Plans.one_fill, Wholes.tells, Wholes.back, Wholes.found}
use Rattle.vcd_wave.proofs.fill.wave_fill.Goals as goal

pub returns-in_err-count-clause-all : goal.returns-in_err-count-clause-all
returns-in_err-count-clause-all c = λ v h.
    let b = back c.args.text.now c.args.fifo c.args.clock v (omega arith) h in
    absurd (c.in_err-count.ensures.all b.count b.rest b.headed)

pub returns-then-asked-count-clause-all : goal.returns-then-asked-count-clause-all
returns-then-asked-count-clause-all c = λ v h.
    let b = back c.args.text.now c.args.fifo c.args.clock v (omega arith) h in
    let f = found c.args.text.now c.args.fifo c.args.clock c.in_ok-count.count c.in_ok-count.later.now b
    (c.in_ok-count.ensures.all b.count b.rest b.headed) in
    absurd (omega (arith, f.declared, c.if-asked-count.true))

pub returns-then-not-each_varies-clause-all : goal.returns-then-not-each_varies-clause-all
returns-then-not-each_varies-clause-all c = λ v h.
    let b = back c.args.text.now c.args.fifo c.args.clock v (omega arith) h in
    let f = found c.args.text.now c.args.fifo c.args.clock c.in_ok-count.count c.in_ok-count.later.now b
    (c.in_ok-count.ensures.all b.count b.rest b.headed) in
    let wrong : false ≡ true = sym c.if-not-each_varies.true ∙ c.each_varies.ensures.1 f.leads in cc

pub returns-in_err-scan-clause-all : goal.returns-in_err-scan-clause-all
returns-in_err-scan-clause-all c = λ v h.
    let b = back c.args.text.now c.args.fifo c.args.clock v (omega arith) h in
    let f = found c.args.text.now c.args.fifo c.args.clock c.in_ok-count.count c.in_ok-count.later.now b
    (c.in_ok-count.ensures.all b.count b.rest b.headed) in
    let lead = f.leads c.args.fifo f.declared in
    let wrong : false ≡ true = c.in_err-scan.ensures.all lead.0 lead.1 in cc

pub returns-then-clock-scan-clause-some : goal.returns-then-clock-scan-clause-some
returns-then-clock-scan-clause-some c =
    let a : Probe = record { count = c.in_ok-count.count; fifo = c.args.fifo; clock = c.args.clock } in
    tells c.args.text.now a c.in_ok-count.later.now c.in_ok-scan.scan (omega arith) (omega (arith, c.if-asked-count.false))
    c.in_ok-count.ensures.some (c.each_varies.ensures.0 c.if-not-each_varies.false) c.in_ok-scan.ensures.some
    (omega (arith, c.if-clock-scan.true))

pub returns-then-clock-scan-clause-all : goal.returns-then-clock-scan-clause-all
returns-then-clock-scan-clause-all c = λ v h.
    let a : Probe = record { count = c.in_ok-count.count; fifo = c.args.fifo; clock = c.args.clock } in
    ap (λ (n : ℕ). Some n) (one_fill c.args.text.now (omega arith) c.args.fifo c.args.clock c.in_ok-scan.scan.told v
    (tells c.args.text.now a c.in_ok-count.later.now c.in_ok-scan.scan (omega arith) (omega (arith, c.if-asked-count.false))
    c.in_ok-count.ensures.some (c.each_varies.ensures.0 c.if-not-each_varies.false) c.in_ok-scan.ensures.some
    (omega (arith, c.if-clock-scan.true))) h)

pub returns-else-clock-scan-clause-all : goal.returns-else-clock-scan-clause-all
returns-else-clock-scan-clause-all c = λ v h.
    let b = back c.args.text.now c.args.fifo c.args.clock v (omega arith) h in
    let f = found c.args.text.now c.args.fifo c.args.clock c.in_ok-count.count c.in_ok-count.later.now b
    (c.in_ok-count.ensures.all b.count b.rest b.headed) in
    absurd (omega (arith, f.last c.in_ok-scan.scan c.in_ok-scan.ensures.some, c.if-clock-scan.false))
