use Rattle.vcd_wave.proofs.Numerals.{no_number, before_some, none_read, same_read}
use Rattle.vcd_wave.specs.{numeral}
use Rattle.vcd_wave.proofs.numbers.number_before.Goals as goal

pub returns-in_err-digits-clause-all : goal.returns-in_err-digits-clause-all
returns-in_err-digits-clause-all c = λ n rest le e.
    absurd (no_number c.args.byte c.args.text.now (numeral c.args.base n) rest (c.in_err-digits.ensures {u = tt}) e)

pub returns-in_err-number-clause-all : goal.returns-in_err-number-clause-all
returns-in_err-number-clause-all c = λ n rest le e.
    absurd (none_read c.args.base c.args.most c.args.byte n c.args.text.now c.in_ok-digits.digits.now c.in_ok-digits.after.now rest
    c.requires.base c.requires.byte c.in_ok-digits.ensures.0 c.in_ok-digits.ensures.1 le e (c.in_err-number.ensures {u = tt}))

pub returns-clause-some : goal.returns-clause-some
returns-clause-some c =
    before_some c.args.base c.args.most c.args.byte c.in_ok-number.number c.args.text.now c.in_ok-digits.digits.now
    c.in_ok-digits.after.now c.requires.base c.in_ok-digits.ensures.0 c.in_ok-number.ensures

pub returns-clause-all : goal.returns-clause-all
returns-clause-all c = λ n rest le e.
    same_read c.args.base c.args.most c.args.byte n c.in_ok-number.number c.args.text.now c.in_ok-digits.digits.now
    c.in_ok-digits.after.now rest c.requires.base c.requires.byte c.in_ok-digits.ensures.0 c.in_ok-digits.ensures.1 le e
    c.in_ok-number.ensures
