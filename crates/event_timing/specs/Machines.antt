-- Modules as abstract machines: the accesses that are due in a state, the move on the replies to them, and the end.
use Rattle.std.specs.Prelude.{◌≡◌, ℕ, zero, suc, ◌+◌, ◌<◌, ◌≤◌, Bool, true, false, cond, ◌&&◌, eqb, List, [], ◌∷◌, ◌++◌, length, ⊤}
use Rattle.flow_word.specs.{Side, other_side, same_side, declared.access.Side.TheVariants.Pop, declared.access.Side.TheVariants.Push}

-- ---- what a module asks, and what it is told

-- an access of a channel: its side, whether it blocks, whether it takes an element or a place when it is possible, and what it
-- pushes
pub record Access : Type 0 where
  pub side : Side
  pub blocks : Bool
  pub takes : Bool
  pub channel : ℕ
  pub value : ℕ

-- the reply to an access: whether it was possible, and the channel's front value where it popped
pub record Reply : Type 0 where
  pub possible : Bool
  pub front : ℕ

-- ---- designs

-- modules with states of any type, and the channels between them
pub record Design (S : Type 0) : Type 0 where
  pub modules : ℕ
  -- of each module its first state, the accesses due in a state, its move on the replies, and whether it is over
  pub opening : ℕ → S
  pub accesses : ℕ → S → List Access
  pub move : ℕ → S → List Reply → S
  pub is_over : ℕ → S → Bool
  -- how many local clocks without an access come from a state on, before the next access or the end
  pub quiet : ℕ → S → ℕ
  -- the module that pops a channel, and the one that pushes it
  pub owner : Side → ℕ → ℕ
  -- how many pops (pushes) are possible before any push (pop): the inputs of a source, the depth of a FIFO
  pub start : Side → ℕ → ℕ
  -- a side that is always possible: the pushes of a sink
  pub unlimited : Side → ℕ → Bool
  -- a side whose other side never comes: the pops of a source, which nobody pushes
  pub closed : Side → ℕ → Bool
  pub inputs : ℕ → List ℕ
  -- the lag of a side: after how many clocks a pop sees a push, and a push a pop
  pub lag : Side → ℕ → ℕ

-- the state after n local clocks without an access
abbrev pub after_skip : {S : Type 0} → Design S → ℕ → ℕ → S → S
after_skip {S} d m zero s = s
after_skip {S} d m (suc n) s = d.move m (after_skip d m n s) []

-- the state of module m after its quiet clocks: it has an access, or is over
abbrev pub ready : {S : Type 0} → Design S → ℕ → S → S
ready {S} d m s = after_skip d m (d.quiet m s) s

abbrev pub is_some_access : List Access → Bool
is_some_access [] = false
is_some_access (a ∷ xs) = true

abbrev pub Each : (Access → Type 0) → List Access → Type 0
Each P [] = ⊤
Each P (a ∷ xs) = P a × Each P xs

-- the access takes an element, or a place, at this side of the channel when it is possible
abbrev pub takes_at : Side → ℕ → Access → Bool
takes_at side ch a = a.takes && (same_side a.side side && eqb a.channel ch)

-- how many of these accesses take at this side of the channel when they are possible
abbrev pub takers : Side → ℕ → List Access → ℕ
takers side ch [] = 0
takers side ch (a ∷ xs) = cond (takes_at side ch a) 1 0 + takers side ch xs

-- the rules of a design
pub record IsDesign {S : Type 0} (d : Design S) : Type 0 where
  -- in its quiet clocks a module is not over and asks nothing
  pub quiet_lives : (m : ℕ) (s : S) (i : ℕ) → i < d.quiet m s → d.is_over m (after_skip d m i s) ≡ false
  pub quiet_idle : (m : ℕ) (s : S) (i : ℕ) → i < d.quiet m s → d.accesses m (after_skip d m i s) ≡ []
  -- each state that a module can come to fits, whatever the replies are
  pub fits : ℕ → S → Bool
  pub fits_opening : (m : ℕ) → fits m (d.opening m) ≡ true
  pub fits_move : (m : ℕ) (s : S) (rs : List Reply) → fits m s ≡ true → fits m (d.move m s rs) ≡ true
  -- the quiet clocks end: after them the module is over, or has an access
  pub quiet_ends : (m : ℕ) (s : S) → fits m s ≡ true → d.is_over m (ready d m s) ≡ false
      → is_some_access (d.accesses m (ready d m s)) ≡ true
  -- each side of a channel belongs to one module
  pub owned : (m : ℕ) (s : S) → Each (λ a. d.owner a.side a.channel ≡ m) (d.accesses m s)
  -- no module pushes a source
  pub open_sides : (m : ℕ) (s : S) → Each (λ a. d.closed (other_side a.side) a.channel ≡ false) (d.accesses m s)
  -- no clock's pop or push is seen in the clock itself
  pub lag_positive : (side : Side) (ch : ℕ) → 0 < d.lag side ch
  pub pops_limited : (ch : ℕ) → d.unlimited Pop ch ≡ false
  pub start_inputs : (ch : ℕ) → d.start Pop ch ≡ length (d.inputs ch)
  -- in one clock a module pops a channel at most once, and pushes it at most once
  pub single : (side : Side) (m : ℕ) (s : S) (ch : ℕ) → takers side ch (d.accesses m s) ≤ 1
  -- a number that names no module is over from the start
  pub outside : (m : ℕ) → d.modules ≤ m → d.is_over m (ready d m (d.opening m)) ≡ true

-- ---- what is taken

-- an access took an element, or a place, at this side of the channel
abbrev pub took : Side → ℕ → Access → Reply → Bool
took side ch a r = a.takes && (r.possible && (same_side a.side side && eqb a.channel ch))

-- how many elements, or places, of the channel these accesses took, by their replies
abbrev pub takes_in : Side → ℕ → List Access → List Reply → ℕ
takes_in side ch [] rs = 0
takes_in side ch (a ∷ xs) [] = 0
takes_in side ch (a ∷ xs) (r ∷ rs) = cond (took side ch a r) 1 0 + takes_in side ch xs rs

-- the values that these accesses pushed on the channel
abbrev pub values_in : ℕ → List Access → List Reply → List ℕ
values_in ch [] rs = []
values_in ch (a ∷ xs) [] = []
values_in ch (a ∷ xs) (r ∷ rs) = cond (took Push ch a r) (a.value ∷ []) [] ++ values_in ch xs rs
