-- What is decided of a query.
use Rattle.std.specs.Prelude.{ℕ, ◌<◌, ◌≤◌, Bool, not}
use Rattle.flow_word.specs.{Kind, is_taking}
use Rattle.time_engine.specs.{Known}
use Rattle.time_engine.specs.declared.known.Known.TheVariants.{From, Never, Unknown}

-- it is known that the access is possible in this clock
abbrev pub IsPossible : Known → ℕ → Type 0
IsPossible (From clock) cycle = clock ≤ cycle
IsPossible Never cycle = ⊥
IsPossible Unknown cycle = ⊥

-- it is known that the access is not possible in this clock
abbrev pub IsImpossible : Known → ℕ → Type 0
IsImpossible (From clock) cycle = cycle < clock
IsImpossible Never cycle = Unit {0}
IsImpossible Unknown cycle = ⊥

-- the outcome of a query that is not possible: yes where it tests whether the channel is empty or full, no where it would pop or
-- push
abbrev pub late_outcome : Kind → Bool
late_outcome kind = not (is_taking kind)
