use Rattle.std.proofs.Common.{◌≡◌, drop}
use Rattle.vcd_wave.specs.{digits_read}
use Rattle.vcd_wave.proofs.numbers.digits_in.Given as goal

abbrev pub invariant-loop-byte : goal.invariant-loop-byte
invariant-loop-byte l = digits_read l.base l.most 0 l.fn.digits ≡ digits_read l.base l.most l.value (drop l.byte-index l.fn.digits)
