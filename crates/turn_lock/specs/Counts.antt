-- What moves the two counts of a pass: the turns that it handed back, and the tries that it lost.
use Rattle.std.specs.Prelude.{ℕ, zero, suc, ◌+◌, List, Option}
use Rattle.turn_lock.specs.{declared.view.PassView.PassView, Turns.BeginsTurn, Turns.EndsTurn}
use Rattle.turn_lock.specs.Views.{after_split, after_lost_tries, after_join}

-- calls of the lock lead from pass v to pass w; in them this many turns were handed back, and this many tries were lost
pub data IsLedBy {E : Type 0} (bearer : E → Option ℕ) (v : PassView E) : ℕ → ℕ → PassView E → Type 0 where
  -- no call yet
  Start : IsLedBy bearer v zero zero v
  -- `take`, or a `try_take` that was won
  Begun : (turns lost tries : ℕ) (log : List E) (u w : PassView E) → IsLedBy bearer v turns lost u → BeginsTurn bearer tries log u w
      → IsLedBy bearer v turns (lost + tries) w
  -- a `try_take` that was lost
  Lost : (turns lost : ℕ) (u : PassView E) → IsLedBy bearer v turns lost u → IsLedBy bearer v turns (suc lost) (after_lost_tries 1 u)
  -- `put`, or `give_back`
  Ended : (turns lost : ℕ) (added log : List E) (u w : PassView E) → IsLedBy bearer v turns lost u → EndsTurn added log u w
      → IsLedBy bearer v (suc turns) lost w
  -- `split`
  Made : (turns lost : ℕ) (u : PassView E) → IsLedBy bearer v turns lost u → IsLedBy bearer v turns lost (after_split u)
  -- `join`
  TakenIn : (turns lost : ℕ) (u other : PassView E) → IsLedBy bearer v turns lost u → IsLedBy bearer v turns lost (after_join u other)
