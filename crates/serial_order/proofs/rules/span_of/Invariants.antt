use Rattle.std.proofs.Common.{◌≡◌, drop}
use Rattle.std.specs.Prelude.{fold, min, max}
use Rattle.serial_order.specs.{offsets_of_use, first_use, last_use}
use Rattle.serial_order.proofs.rules.span_of.Given as goal

abbrev pub invariant-loop-timed : goal.invariant-loop-timed
invariant-loop-timed l = (fold min l.first (offsets_of_use l.used (drop l.timed-index l.ops)) ≡ first_use l.used l.ops)
    × (fold max l.last (offsets_of_use l.used (drop l.timed-index l.ops)) ≡ last_use l.used l.ops)
