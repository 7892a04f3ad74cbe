-- What a wave says that each FIFO holds in each clock.
use Rattle.std.specs.Prelude.{ℕ, ◌≡◌, ◌≢◌, ◌+◌, ◌^◌, ◌<◌, ◌≤◌, ◌==◌, nat_le, IsTrue, List, [], ◌∷◌, map, filter, length, slice_index_or}
use Rattle.std.specs.Prelude.{All, AllPairs}
use Rattle.std.specs.List.{flat_map}
use Rattle.flow_design.specs.{is_name}
use Rattle.vcd_wave.specs.{Wave.Change, Wave.Instant, Wave.Wave, WaveText.wave_text}

-- ---- what FIFOs hold

-- the last of these numbers, or the given one where there is none
abbrev pub last_or : ℕ → List ℕ → ℕ
last_or other [] = other
last_or other (n ∷ more) = last_or n more

-- what these changes say that a FIFO holds, change after change
abbrev pub told_in : ℕ → List Instant → List ℕ
told_in fifo instants = flat_map (λ i. map (λ c. c.fill) (filter (λ c. c.fifo == fifo) i.changes)) instants

-- what a wave says that a FIFO holds in a clock: as the last change at or before the clock says, and 0 before the first
unfoldable pub told_fill : Wave → ℕ → ℕ → ℕ
told_fill w fifo clock = last_or 0 (told_in fifo (filter (λ i. nat_le i.clock clock) w.later))

-- the last clock for which a wave has a line
abbrev pub last_told : Wave → ℕ
last_told w = last_or 0 (map (λ i. i.clock) w.later)

-- ---- which waves are waves of FIFOs

-- each of these numbers differs from the one before it, and the first from n
abbrev pub Varies : ℕ → List ℕ → Type 0
Varies n [] = Unit {0}
Varies n (m ∷ more) = (m ≢ n) × Varies m more

-- the change is of one of `count` FIFOs, to a number of 32 bits
pub record IsChange (count : ℕ) (c : Change) : Type 0 where
  pub declared : c.fifo < count
  pub fits : c.fill < 2 ^ 32

-- the wave is one of FIFOs: the names are names of the language; the clocks rise, and only the last may have no change; in one
-- clock the FIFOs change in order of their numbers, each to another number of elements than before
pub record IsWave (w : Wave) : Type 0 where
  pub names : All (λ n. IsTrue (is_name n)) w.names
  pub later_first_one : All (λ i. 0 < i.clock) w.later
  pub clocks : All (λ i. i.clock < 2 ^ 64) w.later
  pub rising : AllPairs (λ a b. a.clock < b.clock) w.later
  pub some : (k : ℕ) (d : Instant) → k + 1 < length w.later → length (slice_index_or w.later k d).changes ≢ 0
  pub changes : All (λ i. All (IsChange (length w.names)) i.changes) w.later
  pub in_order : All (λ i. AllPairs (λ a b. a.fifo < b.fifo) i.changes) w.later
  pub other : (fifo : ℕ) → fifo < length w.names → Varies 0 (told_in fifo w.later)

-- the text is that of a wave of FIFOs which says that this FIFO holds this many elements in this clock
pub record TellsFill (text : List ℕ) (fifo clock fill : ℕ) : Type 0 where
  pub wave : Wave
  pub is_wave : IsWave wave
  pub its_text : text ≡ wave_text wave
  pub declared : fifo < length wave.names
  pub within : clock ≤ last_told wave
  pub says : fill ≡ told_fill wave fifo clock
