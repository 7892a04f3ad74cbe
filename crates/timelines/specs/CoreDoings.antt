-- What a core tells about a module's clocks, by its steps and accesses.
use Rattle.std.specs.Prelude.{ℕ, ◌+◌, Bool, not, ◌&&◌, Option, Some, None, find}
use Rattle.flow_word.specs.{is_blocking}
use Rattle.flow_design.specs.{Plan, ModuleState, Request}
use Rattle.lockstep_defs.specs.{requests_of}
use Rattle.event_timing.specs.{Design, Access, View, tally, from, own, Known, known, answer, core_reply, core_accesses, view, Core.Core}
use Rattle.timelines.specs.{declared.span.Doing.Doing, declared.span.Doing.TheVariants.Moves, declared.span.Doing.TheVariants.Still}
use Rattle.timing_bridge.specs.{design, seen_request}

-- what is known of an access of module m's step k
abbrev pub known_in : {S : Type 0} → Design S → View → ℕ → ℕ → Access → Known
known_in {S} d v m k a = known d v a.side a.channel (tally (v.accesses m) (v.reply m) a.side a.channel k)

-- the clock in which module m comes to step k, or, where no such step is emitted, to its end: the clock after the step before and
-- the quiet clocks that follow it
abbrev pub arrives : {S : Type 0} → Design S → Core S → ℕ → ℕ → ℕ
arrives {S} d x m k = from (x.cycle m) k + d.quiet m (own d m (core_reply d x m) k)

-- the request of step k blocks, and the core does not know it to be possible in clock c
abbrev pub waits_in : Plan → Core ModuleState → ℕ → ℕ → ℕ → Request → Bool
waits_in p x i k c r = is_blocking r.kind && not (answer (known_in (design p) (view (design p) x) i k (seen_request r)) c)

-- the first request of step k that the core does not know to be possible in clock c, among those that block
abbrev pub core_blocker : Plan → Core ModuleState → ℕ → ℕ → ℕ → Option Request
core_blocker p x i k c = find (waits_in p x i k c) (requests_of p (i, x.state i k))

-- the access blocks, and is not known to be possible in clock c
abbrev pub waits_at : (Access → Known) → ℕ → Access → Bool
waits_at know c a = a.blocks && not (answer (know a) c)

-- what a module does at a step, by the first access that waits: it moves where none does
abbrev pub doing_at : Option Access → Doing
doing_at None = Moves
doing_at (Some a) = Still (record { side = a.side; channel = a.channel })

-- what module i does in clock c at its step k, as the core tells it
abbrev pub core_doing : Plan → Core ModuleState → ℕ → ℕ → ℕ → Doing
core_doing p x i k c = doing_at (find (waits_at (known_in (design p) (view (design p) x) i k) c) (core_accesses (design p) x i k))
