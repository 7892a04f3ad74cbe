-- The run of a design as functions of the clock, and the laws of counting that it obeys.
use Rattle.std.specs.Prelude.{◌≡◌, ℕ, suc, ◌+◌, ◌-◌, Bool, true, false, cond, not, ◌&&◌, ◌||◌, ltb, List, [], ◌∷◌, ◌++◌, map, get_or}
use Rattle.flow_word.specs.{Side, other_side, same_side, declared.access.Side.TheVariants.Pop, declared.access.Side.TheVariants.Push}
use Rattle.event_timing.specs.Machines.{Access, Reply, Design, takes_in, values_in}

-- what holds at each clock, before that clock's moves
pub record Trace (S : Type 0) : Type 0 where
  -- the state of each module
  pub state : ℕ → ℕ → S
  -- how many pops or pushes of each channel there were in earlier clocks
  pub taken : ℕ → Side → ℕ → ℕ
  -- the inputs of each channel, and then all values pushed on it in earlier clocks
  pub pushed : ℕ → ℕ → List ℕ

-- a pop (or a push) of the channel is possible in clock c: fewer were done than the start and the other side's together, as far as
-- those are seen in clock c
abbrev pub is_possible : {S : Type 0} → Design S → Trace S → ℕ → Side → ℕ → Bool
is_possible {S} d h c side ch =
    d.unlimited side ch || ltb (h.taken c side ch) (d.start side ch + h.taken (suc c - d.lag side ch) (other_side side) ch)

-- the value that an access pops in clock c: the n-th pop gives the n-th value that went in
abbrev pub front_for : {S : Type 0} → Design S → Trace S → ℕ → Access → ℕ
front_for {S} d h c a =
    cond (a.takes && (same_side a.side Pop && is_possible d h c a.side a.channel))
    (get_or (h.pushed c a.channel) (h.taken c Pop a.channel) 0) 0

abbrev pub reply_to : {S : Type 0} → Design S → Trace S → ℕ → Access → Reply
reply_to {S} d h c a = record { possible = is_possible d h c a.side a.channel; front = front_for d h c a }

abbrev pub can_do : {S : Type 0} → Design S → Trace S → ℕ → Access → Bool
can_do {S} d h c a = not a.blocks || is_possible d h c a.side a.channel

abbrev pub can_all : {S : Type 0} → Design S → Trace S → ℕ → List Access → Bool
can_all {S} d h c [] = true
can_all {S} d h c (a ∷ xs) = can_do d h c a && can_all d h c xs

-- a module moves unless it is over, or an access that blocks is not possible
unfoldable pub can_move : {S : Type 0} → Design S → Trace S → ℕ → ℕ → Bool
can_move {S} d h c m = not (d.is_over m (h.state c m)) && can_all d h c (d.accesses m (h.state c m))

unfoldable pub replies : {S : Type 0} → Design S → Trace S → ℕ → ℕ → List Reply
replies {S} d h c m = map (reply_to d h c) (d.accesses m (h.state c m))

-- how many elements, or places, module m takes at a side of the channel in clock c, if it moves
abbrev pub taken_by : {S : Type 0} → Design S → Trace S → ℕ → ℕ → Side → ℕ → ℕ
taken_by {S} d h c m side ch = takes_in side ch (d.accesses m (h.state c m)) (replies d h c m)

abbrev pub pushed_by : {S : Type 0} → Design S → Trace S → ℕ → ℕ → ℕ → List ℕ
pushed_by {S} d h c m ch = values_in ch (d.accesses m (h.state c m)) (replies d h c m)

-- the laws of counting: how a history starts, and what a clock changes for a module that moves, and for one that stays
pub record IsHistory {S : Type 0} (d : Design S) (h : Trace S) : Type 0 where
  pub state_0 : (m : ℕ) → h.state 0 m ≡ d.opening m
  pub taken_0 : (side : Side) (ch : ℕ) → h.taken 0 side ch ≡ 0
  pub pushed_0 : (ch : ℕ) → h.pushed 0 ch ≡ d.inputs ch
  pub state_moves : (c m : ℕ) → can_move d h c m ≡ true → h.state (suc c) m ≡ d.move m (h.state c m) (replies d h c m)
  pub state_stays : (c m : ℕ) → can_move d h c m ≡ false → h.state (suc c) m ≡ h.state c m
  pub taken_moves : (c : ℕ) (side : Side) (ch : ℕ) → can_move d h c (d.owner side ch) ≡ true
      → h.taken (suc c) side ch ≡ h.taken c side ch + taken_by d h c (d.owner side ch) side ch
  pub taken_stays : (c : ℕ) (side : Side) (ch : ℕ) → can_move d h c (d.owner side ch) ≡ false → h.taken (suc c) side ch ≡ h.taken c side ch
  pub pushed_moves : (c ch : ℕ) → can_move d h c (d.owner Push ch) ≡ true
      → h.pushed (suc c) ch ≡ h.pushed c ch ++ pushed_by d h c (d.owner Push ch) ch
  pub pushed_stays : (c ch : ℕ) → can_move d h c (d.owner Push ch) ≡ false → h.pushed (suc c) ch ≡ h.pushed c ch
