-- What is held, with all that a turn needs of it.
use Rattle.std.specs.Prelude.{◌≡◌, ℕ, ◌<◌, true}
use Rattle.event_timing.specs.{Design, AreOwnMarks, Core.Core}
use Rattle.engine_view.specs.{Held.Held, Held.core_of, Shown.IsSound}

-- what is held is kept for the design: it is a core of the design, its marks are those of own runs, and its steps with a cycle are
-- verified
pub record IsKept {S : Type 0} (d : Design S) (h : Held) : Type 0 where
  pub sound : IsSound d h
  pub marks : AreOwnMarks d (core_of d h)
  pub earlier : (m k : ℕ) → k < (core_of d h).timed m → (core_of d h).verified m k ≡ true

-- what is held is kept for the design, and its core is y
pub record IsNow {S : Type 0} (d : Design S) (g : Held) (y : Core S) : Type 0 where
  pub core : core_of d g ≡ y
  pub kept : IsKept d g
