-- What a module does in a clock.
use Rattle.std.specs.Prelude.{ℕ, Option, Some, None, if◌then◌else◌}
use Rattle.flow_word.specs.{side_of}
use Rattle.flow_design.specs.{Plan, Request}
use Rattle.lockstep_defs.specs.{is_over, stalled_request, state, state_at}
use Rattle.timelines.specs.{declared.span.Doing.Doing, declared.span.Doing.TheVariants.Moves, declared.span.Doing.TheVariants.Still}

-- what a module does, by its first request that cannot be done: it moves where there is none
abbrev pub doing_by : Option Request → Doing
doing_by None = Moves
doing_by (Some r) = Still (record { side = side_of r.kind; channel = r.channel })

-- the first of module i's due blocking operations, in commit order, that cannot be done in clock c
abbrev pub blocker : Plan → ℕ → ℕ → Option Request
blocker p c i = stalled_request p c (state p c).contents (i, state_at p c i)

-- what module i does in clock c; nothing where it is over
unfoldable pub doing : Plan → ℕ → ℕ → Option Doing
doing p c i = if is_over p.ops (state_at p c i) then None else Some (doing_by (blocker p c i))
