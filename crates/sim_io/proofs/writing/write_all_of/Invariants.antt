use Rattle.std.proofs.Common.{ℕ, List, Bool, ◌-◌, ◌≤◌, ◌<◌, ◌≡◌, length, take, false}
use Rattle.std.specs.{declared.option.Option.Option, Io.KnownBytes.Appends}
use Rattle.sim_io.proofs.writing.write_all_of.Given as goal

-- what was written so far, the count of faults, and the mark
pub record IsWriting {K : Type 0} (first sink : K) (held : K → Option (List ℕ)) (count : K → ℕ) (mark : K → Bool) (text : List ℕ)
    (at : ℕ) : Type 0 where
  pub bytes : Appends (held first) (held sink) (take at text)
  pub within : at ≤ length text
  pub faults : count first ≤ count sink
  pub unfinished : 0 < at → mark sink ≡ false
  pub nothing : at ≡ 0 → sink ≡ first

abbrev pub invariant-loop-at : goal.invariant-loop-at
invariant-loop-at g l = IsWriting l.fn.sink l.sink g.K.Sink.held g.K.Sink.faults g.K.Sink.is_finished l.text l.at

abbrev pub decreases-loop-at : goal.decreases-loop-at
decreases-loop-at g l = length l.text - l.at
