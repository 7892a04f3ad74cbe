use Rattle.std.proofs.Common.{arith}
use Rattle.module_sets.proofs.Bits.{first_from, set_below, none_from}
use Rattle.module_sets.proofs.word.first_bit.Goals as goal

pub returns-in_err-after-clause-none : goal.returns-in_err-after-clause-none
returns-in_err-after-clause-none c = λ s bit l h.
    let u = set_below c.args.word bit c.ranges.word.fits h in absurd (c.in_err-after.ensures (omega arith))

pub returns-then-after-eq0-clause-none : goal.returns-then-after-eq0-clause-none
returns-then-after-eq0-clause-none c = λ s bit l h.
    none_from c.args.word c.args.from bit (let e = c.in_ok-after.ensures.1 in omega (arith, e, c.if-after-eq0.true)) l h

pub returns-else-after-eq0-clause-first : goal.returns-else-after-eq0-clause-first
returns-else-after-eq0-clause-first c =
    first_from c.args.word c.args.from c.in_ok-after.after c.ranges.word.fits c.in_ok-after.ensures.1 c.if-after-eq0.false

pub returns-else-after-eq0-clause-inside : goal.returns-else-after-eq0-clause-inside
returns-else-after-eq0-clause-inside c =
    let first = first_from c.args.word c.args.from c.in_ok-after.after c.ranges.word.fits c.in_ok-after.ensures.1
    c.if-after-eq0.false in
    set_below c.args.word _ c.ranges.word.fits first.is_set
