-- What stays of a core, whatever is done.
use Rattle.std.specs.Prelude.{true, ℕ, ◌<◌, ◌≤◌, ◌≡◌}
use Rattle.flow_word.specs.{Side}
use Rattle.event_timing.specs.{Machines.Design, Views.own, Views.Begins}
use Rattle.event_timing.specs.Core.{Core, core_values, core_reply, core_tally, values_there}

-- core z has all that core x has: its steps, their recorded outcomes, and the values on each channel
pub record Grows {S : Type 0} (d : Design S) (x z : Core S) : Type 0 where
  pub emitted_up : (n : ℕ) → x.emitted n ≤ z.emitted n
  pub state_same : (n k : ℕ) → k < x.emitted n → z.state n k ≡ x.state n k
  pub wait_same : (n k : ℕ) → k < x.emitted n → z.wait n k ≡ x.wait n k
  pub flags_same : (n k : ℕ) → k < x.emitted n → x.answered n k ≡ true → z.flags n k ≡ x.flags n k
  pub answered_up : (n k : ℕ) → k < x.emitted n → x.answered n k ≡ true → z.answered n k ≡ true
  pub values_up : (ch : ℕ) → Begins (core_values d z ch) (core_values d x ch)

-- core z has all that core x has, and no further mark of module m
pub record GrowsBeside {S : Type 0} (d : Design S) (x z : Core S) (m : ℕ) : Type 0 where
  pub grows : Grows d x z
  pub emitted : z.emitted m ≡ x.emitted m
  pub over : z.over m ≡ x.over m

-- every reply to module m's first n steps is there
pub record IsSettled {S : Type 0} (d : Design S) (x : Core S) (m n : ℕ) : Type 0 where
  pub emitted : (k : ℕ) → k < n → k < x.emitted m
  pub answered : (k : ℕ) → k < n → x.answered m k ≡ true
  pub there : (k : ℕ) → k < n → values_there d x m k ≡ true

-- module m's first n steps have the same replies in both cores, and lead to the same state
pub record RepliesAlike {S : Type 0} (d : Design S) (x z : Core S) (m n : ℕ) : Type 0 where
  pub counts : (side : Side) (ch : ℕ) → core_tally d z m side ch n ≡ core_tally d x m side ch n
  pub replies : (k : ℕ) → k < n → core_reply d z m k ≡ core_reply d x m k
  pub there : (k : ℕ) → k < n → values_there d z m k ≡ true
  pub rests : own d m (core_reply d z m) n ≡ own d m (core_reply d x m) n
