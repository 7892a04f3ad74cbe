-- What the machine keeps of a module from clock to clock.
use Rattle.std.specs.Prelude.{◌≡◌, ◌+◌, ◌-◌, ◌<◌, ◌≤◌, ℕ, true, false, List, [], length, slice_index_or}
use Rattle.flow_design.specs.{Plan, ModuleState}
use Rattle.lockstep_defs.specs.{nobody, move, rests, skip, module_at, requests_of, state_at}
use Rattle.module_code.specs.{BlockCode, no_notes, AreNotesOf}
use Rattle.clock_machine.specs.{declared.memo.Memo.Memo, Clocks.does_move, Clocks.step_at}

-- a memo in which nothing is known
abbrev pub no_memo : Memo
no_memo = record { wakes = 0; known = false; place = 0; notes = no_notes; requests = [] }

-- the code of the block in which a module stands, with a default
abbrev pub code_of_block : List (List BlockCode) → ℕ × ModuleState → BlockCode → BlockCode
code_of_block codes m d = slice_index_or (slice_index_or codes m.0 []) (m.1).control.block d

-- what a memo says to be known of a module is right: the notes, by the module's code, and the requests of what is due
pub record IsKnown (p : Plan) (codes : List (List BlockCode)) (m : ℕ × ModuleState) (memo : Memo) : Type 0 where
  pub noted : memo.known ≡ true → (d : BlockCode) → AreNotesOf (module_at p m.0) m.1 (code_of_block codes m d) memo.notes
  pub requests : memo.known ≡ true → memo.requests ≡ requests_of p m

-- how many clocks a module still sleeps from this one on
abbrev pub asleep : ℕ → Memo → ℕ
asleep clock memo = memo.wakes - clock

-- a module is kept as of a clock: with the state in which it wakes, and it asks for nothing in the clocks that it sleeps
pub record IsRemembered (p : Plan) (codes : List (List BlockCode)) (clock i : ℕ) (state : ModuleState) (memo : Memo) : Type 0 where
  pub standing : state ≡ skip p i (asleep clock memo) (state_at p clock i)
  pub quiet : (n : ℕ) → n < asleep clock memo → rests p i (skip p i n (state_at p clock i)) ≡ false
  pub young : state.control.clock ≤ clock + asleep clock memo
  pub known : IsKnown p codes (i, state) memo

-- each module is kept as of a clock
pub record AreRemembered (p : Plan) (codes : List (List BlockCode)) (clock : ℕ) (states : List ModuleState) (memos : List Memo) : Type 0
  where
    pub state_count : length states ≡ length p.design.modules
    pub memo_count : length memos ≡ length p.design.modules
    pub each : (i : ℕ) → i < length p.design.modules
        → IsRemembered p codes clock i (slice_index_or states i nobody) (slice_index_or memos i no_memo)

-- module i moves in a clock without asking for anything
pub record MovesQuietly (p : Plan) (clock i : ℕ) : Type 0 where
  pub moving : does_move p clock i ≡ true
  pub state : state_at p (clock + 1) i ≡ move (module_at p i) (state_at p clock i) []
  pub step : step_at p clock i ≡ []

-- module i moves in a clock without asking for anything, and is kept as of the next one
pub record FallsAsleep (p : Plan) (codes : List (List BlockCode)) (clock i : ℕ) (state : ModuleState) (memo : Memo) : Type 0 where
  pub remembered : IsRemembered p codes (clock + 1) i state memo
  pub quiet : MovesQuietly p clock i
