-- The laws of the lockstep machine.
use Rattle.std.specs.Prelude.{◌⊎◌, ℕ, zero, suc, if◌then◌else◌, ◌≡◌, ◌+◌, ◌*◌, ◌-◌, ◌<◌, ◌≤◌, true, IsTrue, IsFalse, Bool, false, not}
use Rattle.std.specs.Prelude.{Option, Some, None, List, ◌++◌, map, filter, length, count_by, All, nat_lt, slice_index, slice_index_or}
use Rattle.flow_word.specs.{Kind, Side, is_blocking, declared.access.Side.TheVariants.Pop, declared.access.Side.TheVariants.Push}
use Rattle.flow_design.specs.{Op, Block, Plan, Report, Control, Reply, ModuleState, is_fifo, is_sink, kind_at, delay_at, kind_and_channel}
use Rattle.flow_design.specs.{block_of, interval, live_count, ages}
use Rattle.lockstep_defs.specs.Channels.{HistoryStep, Exchange, can_take, moved, values, contents_of}
use Rattle.lockstep_defs.specs.Lockstep.{module_at, requests_of, moves, state, history, state_at, steps_in}
use Rattle.lockstep_defs.specs.{Verdict.is_settled, Verdict.some_moves, Report.steps_of, Quiet.rests, Quiet.skip, Quiet.quiet}
use Rattle.lockstep_defs.specs.OwnRun.{OwnStep, Own, own_run, paired}

-- from a settled clock on nothing changes and nothing is done
abbrev pub SettledStays : Plan → ℕ → Type 0
SettledStays p c = IsTrue (is_settled p c (state p c)) → (n : ℕ) → (state p (n + c) ≡ state p c) × (history p (n + c) ≡ history p c)

-- from a clock that is not settled some module moves in it or in a later one
abbrev pub SomeoneMoves : Plan → ℕ → Type 0
SomeoneMoves p c = IsFalse (is_settled p c (state p c))
    → (n : ℕ) × IsTrue (some_moves p (n + c) (state p (n + c)).contents (state p (n + c)))

-- no clock before this one is settled
abbrev pub NoneBefore : Plan → ℕ → Type 0
NoneBefore p c = (b : ℕ) → b < c → IsFalse (is_settled p b (state p b))

-- in each clock at most one element is popped off a channel, and at most one is pushed on it
abbrev pub MovesOnce : Plan → ℕ → Type 0
MovesOnce p c = (side : Side) (f : ℕ) → length (moved side f (steps_in p c (state p c))) ≤ 1

-- what a channel held at clock 0, and then all that was pushed on it before clock c
abbrev pub all_in : Plan → ℕ → ℕ → List ℕ
all_in p c f = values (contents_of (state p 0).contents f) ++ moved Push f (history p c)

-- what went into a channel is what was popped off it, and after that what it holds
abbrev pub IsConserved : Plan → ℕ → ℕ → Type 0
IsConserved p c f = all_in p c f ≡ moved Pop f (history p c) ++ values (contents_of (state p c).contents f)

-- the n-th pop of a channel gives the n-th value that went in
abbrev pub PopsInOrder : Plan → ℕ → ℕ → Type 0
PopsInOrder p c f = (n d : ℕ) → n < length (moved Pop f (history p c))
    → slice_index_or (moved Pop f (history p c)) n d ≡ slice_index_or (all_in p c f) n d

-- counts tell what is possible: a pop, where fewer elements were popped than had gone in as many clocks ago as the channel's delay;
-- a push on a FIFO, where fewer elements were pushed than its depth and the number of pops together; a push on any other channel
-- always
pub record IsCounted (p : Plan) (c f : ℕ) : Type 0 where
  pub pops : can_take p c (state p c).contents Pop f
      ≡ nat_lt (length (moved Pop f (history p c))) (length (all_in p (suc c - delay_at p f) f))
  pub pushes : IsTrue (is_fifo (kind_at p f))
      → can_take p c (state p c).contents Push f
      ≡ nat_lt (length (moved Push f (history p c))) (slice_index p.depths f + length (moved Pop f (history p c)))
  pub unlimited : IsFalse (is_fifo (kind_at p f)) → can_take p c (state p c).contents Push f ≡ true

-- the replies to the steps of a module
abbrev pub replies_by_step : List HistoryStep → List (List Reply)
replies_by_step steps = map (λ s. map (λ x. x.reply) s.exchanges) steps

-- the operations done in each step of an own run
abbrev pub exchanges_by_step : List OwnStep → List (List Exchange)
exchanges_by_step steps = map (λ s. paired s.requests s.replies) steps

-- how many local clocks module i has made before clock c
unfoldable pub clocks_made : Plan → ℕ → ℕ → ℕ
clocks_made p i zero = 0
clocks_made p i (suc c) = if moves p c (state p c).contents (i, state_at p c i) then suc (clocks_made p i c) else clocks_made p i c

-- module i's own run on the replies of the history before clock c, after as many local clocks as the module has made
abbrev pub own_at : Plan → ℕ → ℕ → Own
own_at p i c = own_run p i (replies_by_step (steps_of i (history p c))) (clocks_made p i c)

-- module i's own run on the history before clock c has the module's state at clock c, and its steps are the module's steps in the
-- history
pub record IsOwnRun (p : Plan) (i c : ℕ) : Type 0 where
  pub state_is : (own_at p i c).state ≡ state_at p c i
  pub steps_are : exchanges_by_step (own_at p i c).steps ≡ map (λ s. s.exchanges) (steps_of i (history p c))

-- a step comes before another in the history: in an earlier clock, or in the same clock by a module with a lower number
abbrev pub IsBefore : HistoryStep → HistoryStep → Type 0
IsBefore s t = (s.clock < t.clock) ⊎ ((s.clock ≡ t.clock) × (s.«module» < t.«module»))

-- the iteration that started j intervals before the newest one started at local clock 0 or later, and is younger than LEN
pub record IsLive (b : Block) (k : Control) (j : ℕ) : Type 0 where
  pub has_started : j * interval b ≤ k.newest
  pub is_young : (k.clock - k.newest) + j * interval b < b.len

-- the n-th of the live iterations, the oldest first, has the age of the newest and one interval more for each iteration after it
pub record AreAges (b : Block) (k : Control) : Type 0 where
  pub count : length (ages b k) ≡ live_count b k
  pub each : (n d : ℕ) → n < live_count b k → slice_index_or (ages b k) n d ≡ (k.clock - k.newest) + (live_count b k - 1 - n) * interval b

-- a report names only modules and channels of its plan; it has one output for each sink, and answers for each module
pub record HasNumbersOf (p : Plan) (r : Report) : Type 0 where
  pub outputs : length r.outputs ≡ length (filter (λ c. is_sink c.kind) p.design.channels)
  pub answers : length r.answers ≡ length p.design.modules
  pub held : All (λ h. (h.«module» < length p.design.modules) × (h.channel < length p.design.channels)) r.held
  pub events : All (λ e. (e.«module» < length p.design.modules) × (e.channel < length p.design.channels)) r.events

-- the access that an operation has, if any, is a query
abbrev pub asks : Option (Kind × ℕ) → Bool
asks None = false
asks (Some access) = not (is_blocking access.0)

abbrev pub is_query : Op ℕ → Bool
is_query op = asks (kind_and_channel op)

-- a module makes at most as many queries in a local clock as its block has query operations
abbrev pub AsksOnce : Plan → ℕ → ModuleState → Type 0
AsksOnce p i s =
    count_by (λ r. not (is_blocking r.kind)) (requests_of p (i, s)) ≤ count_by (λ t. is_query t.op) (block_of (module_at p i) s).ops

-- the own run of module i rests after its quiet clocks, and not earlier
pub record QuietClocksEnd (p : Plan) (i : ℕ) (s : ModuleState) : Type 0 where
  pub goes_before : (n : ℕ) → n < quiet p i s → IsFalse (rests p i (skip p i n s))
  pub rests_then : IsTrue (rests p i (skip p i (quiet p i s) s))
