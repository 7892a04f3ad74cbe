-- The source and the sink in memory, as contracts see them.
use Rattle.std.specs.Prelude.{ℕ, ◌+◌, ◌-◌, ◌^◌, ◌≡◌, ◌<◌, ◌⊎◌, Contains, min, Bool, true, false, List, [], ◌++◌, length, drop}

-- a source: the bytes left, how many a call hands out at most, which calls fail, and the calls and faults so far
pub record Given : Type 0 where
  pub left : List ℕ
  pub piece : ℕ
  pub fails : List ℕ
  pub calls : ℕ
  pub faults : ℕ

-- a sink: what it holds, its free room, how many bytes a call takes at most, which calls fail, the calls and faults so
-- far, and whether it is finished
pub record Taken : Type 0 where
  pub held : List ℕ
  pub room : ℕ
  pub piece : ℕ
  pub fails : List ℕ
  pub calls : ℕ
  pub faults : ℕ
  pub finished : Bool

-- a count raised by one, or still the greatest u64
abbrev pub raised_count : ℕ → ℕ
raised_count n = min (n + 1) (2 ^ 64 - 1)

-- a new source: all bytes left, no call and no fault yet
abbrev pub opened_source : List ℕ → ℕ → List ℕ → Given
opened_source bytes piece fails = record { left = bytes; piece = piece; fails = fails; calls = 0; faults = 0 }

-- how many bytes a call hands out: as many as its piece, what is left and the caller's room allow
abbrev pub handed : Given → ℕ → ℕ
handed s into = min into (min s.piece (length s.left))

-- a source after a call that hands out n bytes
abbrev pub after_take : Given → ℕ → Given
after_take s n = record s { left = drop n s.left; calls = raised_count s.calls }

-- a source after a call that fails: what is left stays
abbrev pub after_failed_take : Given → Given
after_failed_take s = record s { calls = raised_count s.calls; faults = raised_count s.faults }

-- a new sink: nothing held, all room free, no call and no fault yet, unfinished
abbrev pub opened_sink : ℕ → ℕ → List ℕ → Taken
opened_sink room piece fails = record { held = []; room = room; piece = piece; fails = fails; calls = 0; faults = 0; finished = false }

-- how many bytes of a piece a call takes: as many as its own piece, that piece and the free room allow
abbrev pub bytes_taken : Taken → ℕ → ℕ
bytes_taken k piece = min piece (min k.piece k.room)

-- a put fails in a listed call, or where there is something to take and no room is free
abbrev pub FailsPut : Taken → List ℕ → Type 0
FailsPut k piece = Contains k.fails k.calls ⊎ ((0 < length piece) × (k.room ≡ 0))

-- a sink after a put that takes these bytes
abbrev pub after_put : Taken → List ℕ → Taken
after_put k bytes = record k { held = k.held ++ bytes; room = k.room - length bytes; calls = raised_count k.calls; finished = false }

-- a sink after a put that fails: what it holds stays, and it is unfinished
abbrev pub after_failed_put : Taken → Taken
after_failed_put k = record k { calls = raised_count k.calls; faults = raised_count k.faults; finished = false }

-- a sink after a finish that succeeds
abbrev pub after_finish : Taken → Taken
after_finish k = record k { calls = raised_count k.calls; finished = true }

-- a sink after a finish that fails
abbrev pub after_failed_finish : Taken → Taken
after_failed_finish k = record k { calls = raised_count k.calls; faults = raised_count k.faults }
