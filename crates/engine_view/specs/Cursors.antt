-- A cursor goes round the modules until it has passed them all without anything being done. It may jump to some modules first.
use Rattle.std.specs.Prelude.{◌≡◌, ℕ, ◌+◌, ◌-◌, ◌*◌, ◌<◌, ◌≤◌, ◌⊎◌}

-- how many modules there are, at which one the cursor stands, how many it passed last, going round, and how often it may still jump
-- before the next action
pub record CursorView : Type 0 where
  pub count : ℕ
  pub at : ℕ
  pub idle : ℕ
  pub jumps : ℕ

-- the cursor stands at module m, and has not passed all modules
pub record IsNext (c : CursorView) (m : ℕ) : Type 0 where
  pub is : m ≡ c.at
  pub inside : m < c.count
  pub goes_on : c.idle < c.count

-- module m counts as idle: the cursor has passed it since something was last done
abbrev pub IsPassed : CursorView → ℕ → Type 0
IsPassed c m = (m < c.count) × (((m < c.at) × (c.at ≤ m + c.idle)) ⊎ ((c.at ≤ m) × (c.at + c.count ≤ m + c.idle)))

-- the cursor goes to the next module, or from the last one to the first
abbrev pub GoesRound : CursorView → CursorView → Type 0
GoesRound c d = ((c.at + 1 < c.count) × (d.at ≡ c.at + 1)) ⊎ ((c.count ≤ c.at + 1) × (d.at ≡ 0))

-- P holds of each module that counts as idle
abbrev pub AreIdle : (ℕ → Type 0) → CursorView → Type 0
AreIdle P c = (m : ℕ) → IsPassed c m → P m

-- a measure of the turns that are left: an action counts more than all jumps and a round, and a jump more than a round
abbrev pub turns_left : ℕ → CursorView → ℕ
turns_left actions c = actions * ((c.count + 1) * (c.count + 1)) + (c.jumps * (c.count + 1) + (c.count - c.idle))
