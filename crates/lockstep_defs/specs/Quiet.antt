-- Quiet clocks: local clocks in which a module asks nothing of the channels. They come to an end, since a measure falls at each of
-- them.
use Rattle.std.specs.Prelude.{ℕ, zero, suc, ◌+◌, ◌-◌, ◌*◌, nat_lt, Bool, true, false, not, ◌&&◌, ◌||◌, if◌then◌else◌, List, [], ◌∷◌}
use Rattle.flow_design.specs.{Block, Plan, Control, ModuleState, Request, interval, block_of}
use Rattle.lockstep_defs.specs.{Machine.is_over, Machine.move, Lockstep.module_at, Lockstep.requests_of, OwnRun.Own}

abbrev pub is_some_request : List Request → Bool
is_some_request [] = false
is_some_request (r ∷ rs) = true

-- the own run of module i rests in this state: the module is over, or has a request
abbrev pub rests : Plan → ℕ → ModuleState → Bool
rests p i s = is_over p.ops s || is_some_request (requests_of p (i, s))

-- the state of module i after n more quiet clocks
abbrev pub skip : Plan → ℕ → ℕ → ModuleState → ModuleState
skip p i zero s = s
skip p i (suc n) s = move (module_at p i) (skip p i n s) []

-- an own run of module i after n more quiet clocks
abbrev pub own_later : Plan → ℕ → ℕ → Own → Own
own_later p i n o = record { state = skip p i n o.state; steps = o.steps; since = o.since + n }

-- the local clocks up to the first state in which module i rests, or n where that is less
unfoldable pub quiet_below : Plan → ℕ → ℕ → ModuleState → ℕ
quiet_below p i zero s = 0
quiet_below p i (suc n) s = elim (rests p i s) [ true ↦ 0 | false ↦ suc (quiet_below p i n (move (module_at p i) s [])) ]

-- more local clocks than any of these blocks can go on after its last iteration started
abbrev pub span : List Block → ℕ
span [] = 0
span (b ∷ bs) = (interval b + b.len + 1) + span bs

-- how many local clocks a block can still go on: up to the next decision and a whole iteration more, or to the block's end
abbrev pub clocks_left : Block → Control → ℕ
clocks_left b k = if k.looping then ((interval b + k.newest) - k.clock) + b.len + 1 else (b.len + k.newest) - k.clock

-- a measure that falls at each quiet clock: the operation count rises, or the next decision or the block's end comes nearer
unfoldable pub measure : Plan → ℕ → ModuleState → ℕ
measure p i s = (p.ops - s.count) * (span (module_at p i).blocks + 1) + clocks_left (block_of (module_at p i) s) s.control

-- how many quiet clocks module i has from this state on
unfoldable pub quiet : Plan → ℕ → ModuleState → ℕ
quiet p i s = quiet_below p i (suc (measure p i s)) s

-- while a loop goes on, its newest iteration is younger than II
abbrev pub keeps_looping : Control → ℕ → Bool
keeps_looping k ii = not k.looping || (nat_lt 0 ii && nat_lt k.clock (k.newest + ii))

-- the state is one that quiet clocks end from; each state that a module comes to is so
abbrev pub fits : Plan → ℕ → ModuleState → Bool
fits p i s = keeps_looping s.control (interval (block_of (module_at p i) s))
