-- Modules that share no channel.
use Rattle.std.specs.Prelude.{◌≡◌, ℕ}
use Rattle.flow_word.specs.{other_side}
use Rattle.event_timing.specs.{Design, Each}

-- module n has no access, in any state, to a channel that has module m at its other side
abbrev pub AreApart : {S : Type 0} → Design S → ℕ → ℕ → Type 0
AreApart {S} d m n = (s : S) → Each (λ a. d.owner (other_side a.side) a.channel ≡ m → ⊥) (d.accesses n s)
