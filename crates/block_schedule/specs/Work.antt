-- The local clocks of a block in which there is work: an operation, a decision of the loop, or the block's end.
use Rattle.std.specs.Prelude.{ℕ, ◌≡◌, ◌+◌, ◌*◌, ◌^◌, ◌<◌, ◌≤◌, ◌⊎◌, IsTrue, IsFalse, map, Contains}
use Rattle.flow_design.specs.{Block, Control, is_loop, interval, ages}

-- the control at another local clock, with the same newest iteration
abbrev pub at_clock : Control → ℕ → Control
at_clock k clock = record k { clock = clock }

-- some operation of the block has this offset
abbrev pub HasOperationAt : Block → ℕ → Type 0
HasOperationAt b offset = Contains (map (λ t. t.offset) b.ops) offset

-- a live iteration has an operation whose offset is its age
pub record HasOperation (b : Block) (k : Control) : Type 0 where
  pub age : ℕ
  pub is_live : Contains (ages b k) age
  pub operation : HasOperationAt b age

-- so many live iterations, of which the newest has been live for so many whole II: one of them has an operation in this phase
abbrev pub HasOperationIn : Block → ℕ → ℕ → ℕ → Type 0
HasOperationIn b whole live phase = (older : ℕ) × ((older < live) × HasOperationAt b (phase + (whole + older) * interval b))

-- the first phase, from this one on, in which one of so many live iterations has an operation
pub record IsNextPhase (b : Block) (whole live phase next : ℕ) : Type 0 where
  pub from : phase ≤ next
  pub inside : next < interval b
  pub operation : HasOperationIn b whole live next
  pub none_before : (p : ℕ) → phase ≤ p → p < next → ¬ HasOperationIn b whole live p

-- in no phase from this one on does one of so many live iterations have an operation
abbrev pub HasNoPhase : Block → ℕ → ℕ → ℕ → Type 0
HasNoPhase b whole live phase = (p : ℕ) → phase ≤ p → p < interval b → ¬ HasOperationIn b whole live p

-- an iteration is decided: the loop goes on, and its newest iteration has been live for II local clocks
pub record IsDecided (b : Block) (k : Control) : Type 0 where
  pub goes_on : IsTrue k.looping
  pub is_old : k.clock ≡ k.newest + interval b

-- the block is over: no further iteration starts, and the newest one started LEN local clocks ago or earlier
pub record IsOver (b : Block) (k : Control) : Type 0 where
  pub is_last : IsFalse k.looping
  pub is_old : k.newest + b.len ≤ k.clock

abbrev pub HasWork : Block → Control → Type 0
HasWork b k = HasOperation b k ⊎ (IsDecided b k ⊎ IsOver b k)

-- the clock is the first local clock with work, from the control's own on
pub record IsNextDue (b : Block) (k : Control) (clock : ℕ) : Type 0 where
  pub from : k.clock ≤ clock
  pub work : HasWork b (at_clock k clock)
  pub idle_before : (c : ℕ) → k.clock ≤ c → c < clock → ¬ HasWork b (at_clock k c)

-- the control is one of this block: its newest iteration has started, the block is not over, and no decision was passed over
pub record StandsIn (b : Block) (k : Control) : Type 0 where
  pub small : k.clock < 10 ^ 18
  pub has_started : k.newest ≤ k.clock
  pub is_young : IsFalse k.looping → k.clock < k.newest + b.len
  pub is_loop : IsTrue k.looping → IsTrue (is_loop b.kind)
  pub undecided : IsTrue k.looping → k.clock ≤ k.newest + interval b
