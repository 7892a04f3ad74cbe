-- Paths of waits: by how many clocks one module comes after another, with any depths.
use Rattle.std.specs.Prelude.{◌≡◌, ℕ, zero, suc, ◌+◌, ◌≤◌, Bool, true, false, ◌&&◌, ◌||◌, eqb, List, [], ◌∷◌}
use Rattle.flow_word.specs.{Side, other_side, same_side}
use Rattle.event_timing.specs.{Access, Design, Trace, can_move}

-- the access is one that waits where it is not possible, and it is at this side of the channel
abbrev pub blocks_at : Side → ℕ → Access → Bool
blocks_at side ch a = a.blocks && (same_side a.side side && eqb a.channel ch)

-- one of the accesses can wait at this side of the channel
abbrev pub can_wait_at : Side → ℕ → List Access → Bool
can_wait_at side ch [] = false
can_wait_at side ch (a ∷ xs) = blocks_at side ch a || can_wait_at side ch xs

-- IsAfter d start h m e n f w: in any run of the design with these numbers of elements and places to begin with, module n goes on from
-- where it stands in clock f of the run h at least w clocks after module m goes on from where it stands in clock e of h:
--   Same: it is the same module and clock, and w is 0;
--   Later: it holds for an earlier clock than f already;
--   Own: it holds, with one clock less, for the clock before f, in which n moves in h;
--   Waits: n waits in clock f at a side of a channel. It has taken all that is there as long as the module at the other side, which stands
--   there in clock a, does not go on; and that module, in clock a, comes after m by at least w clocks less the lag of the channel.
pub data IsAfter {S : Type 0} (d : Design S) (start : Side → ℕ → ℕ) (h : Trace S) (m e : ℕ) : ℕ → ℕ → ℕ → Type 0 where
  Same : IsAfter d start h m e m e zero
  Later : (n f g w : ℕ) → f ≤ g → IsAfter d start h m e n f w → IsAfter d start h m e n g w
  Own : (n f w : ℕ) → can_move d h f n ≡ true → IsAfter d start h m e n f w → IsAfter d start h m e n (suc f) (suc w)
  Waits : (n f w a b ch : ℕ) (side : Side) → can_wait_at side ch (d.accesses n (h.state f n)) ≡ true → d.unlimited side ch ≡ false
      → start side ch + h.taken a (other_side side) ch ≤ h.taken f side ch → w ≤ b + d.lag side ch
      → IsAfter d start h m e (d.owner (other_side side) ch) a b → IsAfter d start h m e n f w
