use Rattle.std.proofs.Common.{◌≡◌, fold, min, take}
use Rattle.vcd_wave.specs.{never, next_of}
use Rattle.vcd_wave.proofs.walk.next_clock.Given as goal

abbrev pub invariant-loop-walk : goal.invariant-loop-walk
invariant-loop-walk l = l.least ≡ fold (λ least w. min least (next_of w)) never (take l.walk-index l.walks)
