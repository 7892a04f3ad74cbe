-- The steps of a module in a history: the clocks in which it does accesses.
use Rattle.std.specs.Prelude.{Bool, cond, suc, zero, ℕ, ◌&&◌}
use Rattle.event_timing.specs.{Machines.Design, Machines.is_some_access, Histories.Trace, Histories.can_move}

-- module m does a step in clock c: it moves and has an access
unfoldable pub steps : {S : Type 0} → Design S → Trace S → ℕ → ℕ → Bool
steps {S} d h c m = can_move d h c m && is_some_access (d.accesses m (h.state c m))

-- how many steps module m did before a clock
unfoldable pub done : {S : Type 0} → Design S → Trace S → ℕ → ℕ → ℕ
done {S} d h m zero = 0
done {S} d h m (suc c) = cond (steps d h c m) (suc (done d h m c)) (done d h m c)

-- the state of module m after its latest step before a clock, or its first state
unfoldable pub rest : {S : Type 0} → Design S → Trace S → ℕ → ℕ → S
rest {S} d h m zero = h.state 0 m
rest {S} d h m (suc c) = cond (steps d h c m) (h.state (suc c) m) (rest d h m c)

-- the clock after module m's latest step before a clock, or 0
unfoldable pub since : {S : Type 0} → Design S → Trace S → ℕ → ℕ → ℕ
since {S} d h m zero = 0
since {S} d h m (suc c) = cond (steps d h c m) (suc c) (since d h m c)
