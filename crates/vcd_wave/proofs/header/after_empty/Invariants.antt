use Rattle.std.proofs.Common.{◌≡◌, ℕ, List, ◌++◌, ◌-◌}
use Rattle.vcd_wave.specs.{empty_text}
use Rattle.vcd_wave.proofs.header.after_empty.Given as goal

abbrev pub invariant-loop-number : goal.invariant-loop-number
invariant-loop-number l =
    ((r : List ℕ) → l.rest ≡ empty_text l.number (l.count - l.number) ++ r → l.fn.text ≡ empty_text 0 l.count ++ r)
    × ((r : List ℕ) → l.fn.text ≡ empty_text 0 l.count ++ r → l.rest ≡ empty_text l.number (l.count - l.number) ++ r)
