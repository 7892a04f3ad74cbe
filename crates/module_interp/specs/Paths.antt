-- How the program's run stands in a module's own run.
use Rattle.std.specs.Prelude.{ℕ, ◌≡◌, ◌+◌, ◌-◌, ◌*◌, ◌^◌, ◌<◌, ◌≤◌, if◌then◌else◌, nat_eq, true, false, List, [], length, map}
use Rattle.std.specs.Prelude.{slice_index_or}
use Rattle.flow_word.specs.{Port, Side, declared.access.Side.TheVariants.Pop, declared.access.Side.TheVariants.Push}
use Rattle.flow_design.specs.declared.limits.TheConstants.{BLOCK_CLOCKS, LONG_BLOCK_OPERATIONS}
use Rattle.flow_design.specs.{Channel, Plan, block_of, ModuleState, FitsEngine, longest_block, uses, declared.design.Module.Module}
use Rattle.lockstep_defs.specs.{requests, is_over, queries, module_at, Own, IsStateOf, Exchange, moved_by, moved_value, quiet, skip}
use Rattle.lockstep_defs.specs.{clocks_left}
use Rattle.module_code.specs.{gone_on, request_from, AreNotesOf, IsStateSound, BlockCode, AreCodesOf}
use Rattle.module_interp.specs.{declared.path.Stage.Stage, declared.path.Path.Path, declared.counts.Counts.Counts}
use Rattle.module_interp.specs.{declared.tally.Tally.Tally, Counts.AreCounts, Counts.HasCount, Counts.count_at}
use Rattle.module_interp.specs.declared.path.Stage.TheVariants.{Begun, Asked, Ticked}

-- ---- how long a module can run

-- a bound for how many local clocks a block can go on after its last iteration started, where a module may count this many
-- operations
abbrev pub block_bound : ℕ → ℕ
block_bound operations = 2 * longest_block operations + 2

-- a bound for how many local clocks a module can run: its blocks may be long, or its operations many, but not both
abbrev pub clock_bound : ℕ
clock_bound = (LONG_BLOCK_OPERATIONS + 1) * (2 * BLOCK_CLOCKS + 2)

-- a measure that falls in each local clock: the operation count rises, or the next decision or the block's end comes nearer
unfoldable pub clocks_to_go : ℕ → Module → ModuleState → ℕ
clocks_to_go operations m s = (operations - s.count) * block_bound operations + clocks_left (block_of m s) s.control

-- the local clocks since a step, and all that the module can still run, stay below the bound
pub record IsInTime (p : Plan) (m : Module) (s : ModuleState) (elapsed : ℕ) : Type 0 where
  pub since : elapsed ≤ clock_bound
  pub left : s.ended ≡ false → elapsed + clocks_to_go p.ops m s ≤ clock_bound
  pub clock : s.ended ≡ false → s.control.clock + clocks_to_go p.ops m s ≤ clock_bound

-- ---- the move at which a module stands

abbrev pub after_move_by : Stage → Path → ModuleState
after_move_by Begun x = x.state
after_move_by Asked x = x.state
after_move_by Ticked x = gone_on x.of x.state

-- the state after what is left to do of the move
abbrev pub after_move : Path → ModuleState
after_move x = after_move_by x.stage x

-- the path has the requests of its state, for all channels that fit its codes
abbrev pub HasAsked : Path → Type 0
HasAsked x = (channels : List Channel) → AreCodesOf channels x.of x.codes → map request_from x.asked ≡ requests channels x.of x.state

-- the path's state has no request, for all channels that fit its codes
abbrev pub RequestsNothing : Path → Type 0
RequestsNothing x = (channels : List Channel) → AreCodesOf channels x.of x.codes → requests channels x.of x.state ≡ []

-- the path has the notes of what is due, by the code of the block in which it stands
abbrev pub HasNoted : Path → Type 0
HasNoted x = (d : BlockCode) → AreNotesOf x.of x.state (slice_index_or x.codes x.state.control.block d) x.notes

-- the path can commit on replies: its state is sound, and it has the notes of what is due
pub record CanAnswer (x : Path) : Type 0 where
  pub state : IsStateSound x.of x.state
  pub noted : HasNoted x
  pub clock : x.state.control.clock ≤ clock_bound
  pub count : x.state.count < 2 ^ 32

pub record MayGoOn (x : Path) : Type 0 where
  pub block : x.state.control.block < length x.of.blocks
  pub has_started : x.state.control.newest ≤ x.state.control.clock

pub record CanAsk (x : Path) : Type 0 where
  pub answer : CanAnswer x
  pub alive : is_over x.limit x.state ≡ false
  pub some : 0 < length x.asked
  pub asked : HasAsked x

abbrev pub IsStageSoundBy : Stage → Path → Type 0
IsStageSoundBy Begun x = Unit {0}
IsStageSoundBy Asked x = CanAsk x
IsStageSoundBy Ticked x = MayGoOn x

-- the path is that of module i of a plan
pub record IsPathOf (p : Plan) (i : ℕ) (x : Path) : Type 0 where
  pub fits : FitsEngine p
  pub owner : i < length p.design.modules
  pub of : x.of ≡ module_at p i
  pub limit : x.limit ≡ p.ops
  pub codes : AreCodesOf p.design.channels x.of x.codes
  pub state : IsStateOf (module_at p i) (after_move x)
  pub operations : (after_move x).count < 2 ^ 32
  pub time : IsInTime p (module_at p i) (after_move x) x.since
  pub stage : IsStageSoundBy x.stage x

-- ---- the rest to which it leads

-- the path comes to this rest after its move and the quiet clocks that follow
pub record LeadsTo (p : Plan) (i : ℕ) (o : Own) (x : Path) : Type 0 where
  pub path : IsPathOf p i x
  pub rest : o.state ≡ skip p i (quiet p i (after_move x)) (after_move x)
  pub since : o.since ≡ x.since + quiet p i (after_move x)

-- each rest to which the first path leads is one to which the second leads
abbrev pub KeepsRest : Path → Path → Type 0
KeepsRest x y = (p : Plan) (i : ℕ) (o : Own) → LeadsTo p i o x → LeadsTo p i o y

-- the path is that of some module of some plan
pub record IsPath (x : Path) : Type 0 where
  pub plan : Plan
  pub number : ℕ
  pub is : IsPathOf plan number x

-- a measure of the way to the end: one more than the most local clocks up to it, and 0 at the end
abbrev pub clocks_to_end : Path → ℕ
clocks_to_end x =
    let s = after_move x in
    if s.ended then 0 else clocks_to_go x.limit x.of s + 1

-- ---- rests

-- the path is at a step: a FIFO operation is due, and all that is due was looked up
pub record IsAtStep (x : Path) : Type 0 where
  pub begun : x.stage ≡ Begun
  pub alive : is_over x.limit x.state ≡ false
  pub noted : HasNoted x
  pub asked : HasAsked x
  pub some : 0 < length x.asked

-- the path is at its end: the module is ended or spent
pub record IsAtEnd (x : Path) : Type 0 where
  pub begun : x.stage ≡ Begun
  pub over : is_over x.limit x.state ≡ true

-- ---- what was done

-- the counts of what was done
pub record IsTallyOf (before : List Exchange) (t : Tally) : Type 0 where
  pub popped_sound : AreCounts t.popped
  pub pushed_sound : AreCounts t.pushed
  pub popped_are : (f : ℕ) → count_at t.popped f ≡ length (moved_by Pop f before)
  pub pushed_are : (f : ℕ) → count_at t.pushed f ≡ length (moved_by Push f before)
  pub queries_are : t.queries ≡ length (queries before)

-- what is counted at a side of the channels
abbrev pub counts_of : Side → Tally → Counts
counts_of Pop t = t.popped
counts_of Push t = t.pushed

-- there is a count at this side of the channel
abbrev pub HasPort : Side → ℕ → Tally → Type 0
HasPort side f t = HasCount (counts_of side t) f

-- there is a count at each side of a channel where the module pops or pushes
abbrev pub KnowsPorts : Module → Tally → Type 0
KnowsPorts m t = (a : Port) → uses a m ≡ true → HasPort a.side a.channel t

-- one operation more was counted at a side of the channels
pub record CountsOneMore (side : Side) (x : Exchange) (t u : Counts) : Type 0 where
  pub sound : AreCounts u
  pub same : u.channels ≡ t.channels
  pub each : (f : ℕ) → count_at u f ≡ count_at t f + length (if nat_eq x.request.channel f then moved_value side x else [])
