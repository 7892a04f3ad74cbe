-- Clocks that no depths make earlier: each local clock of a module comes at once after the one before it, or as soon as an element
-- can come that is pushed as early as possible.
use Rattle.std.specs.Prelude.{◌≡◌, ℕ, zero, suc, ◌+◌, ◌≤◌, Bool, true, false, cond, ◌&&◌, ◌||◌, eqb, List, [], ◌∷◌}
use Rattle.flow_word.specs.{declared.access.Side.TheVariants.Pop, declared.access.Side.TheVariants.Push, same_side}
use Rattle.event_timing.specs.{Access, Design, Trace, can_move}

-- how many local clocks a module has made before clock c
unfoldable pub moves_made : {S : Type 0} → Design S → Trace S → ℕ → ℕ → ℕ
moves_made {S} d h m zero = 0
moves_made {S} d h m (suc c) = cond (can_move d h c m) (suc (moves_made d h m c)) (moves_made d h m c)

-- the access blocks and pops the channel
abbrev pub pops_of : ℕ → Access → Bool
pops_of ch a = a.blocks && (same_side a.side Pop && eqb a.channel ch)

abbrev pub waits_for : ℕ → List Access → Bool
waits_for ch [] = false
waits_for ch (a ∷ xs) = pops_of ch a || waits_for ch xs

-- no depths let module m make more local clocks before clock c than it does:
--   c is clock 0; or
--   this holds of the clock before, in which the module moves; or
--   the module waits for an element of a channel, all that were pushed before clock b are popped, c is at most the channel's delay after b,
--   and no depths let the pushing module make more local clocks before b
pub data IsSoonest {S : Type 0} (d : Design S) (h : Trace S) : ℕ → ℕ → Type 0 where
  Start : (m : ℕ) → IsSoonest d h m zero
  Own : (m c : ℕ) → can_move d h c m ≡ true → IsSoonest d h m c → IsSoonest d h m (suc c)
  Empty : (m c b ch : ℕ) → waits_for ch (d.accesses m (h.state c m)) ≡ true
      → d.start Pop ch + h.taken b Push ch ≤ h.taken c Pop ch → c ≤ b + d.lag Pop ch → IsSoonest d h (d.owner Push ch) b
      → IsSoonest d h m c
