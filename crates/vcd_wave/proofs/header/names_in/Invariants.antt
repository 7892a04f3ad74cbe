use Rattle.std.proofs.Common.{ℕ, List, ◌+◌, ◌≤◌, length}
use Rattle.vcd_wave.specs.{NamesFrom}
use Rattle.vcd_wave.proofs.header.names_in.Given as goal

abbrev pub invariant-loop-end : goal.invariant-loop-end
invariant-loop-end l =
    ((m : ℕ) (r : List ℕ) → NamesFrom l.count l.rest m r → NamesFrom 0 l.fn.text m r)
    × ((m : ℕ) (r : List ℕ) → NamesFrom 0 l.fn.text m r → NamesFrom l.count l.rest m r)
    × (l.count + length l.rest ≤ length l.fn.text)

abbrev pub decreases-loop-end : goal.decreases-loop-end
decreases-loop-end l = length l.rest
