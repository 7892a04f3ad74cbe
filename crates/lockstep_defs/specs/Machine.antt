-- A module as a machine: what it asks of the channels, one move on the replies, and when it is over. Proofs about clocks unfold
-- none of `requests`, `move`, `is_over` and `opened`.
use Rattle.std.specs.Prelude.{ℕ, ◌+◌, ◌-◌, ◌%◌, ◌==◌, nat_lt, nat_le, Bool, true, false, not, ◌&&◌, ◌||◌, if◌then◌else◌, Option, List, []}
use Rattle.std.specs.Prelude.{◌∷◌, ◌++◌, map, length, drop, replicate, fold, filter_map, option_map, slice_index, slice_index_or, slice_set}
use Rattle.std.specs.{Int.from_bool, Option.is_some}
use Rattle.flow_design.specs.{Expr, Op, BlockKind, Next, Block, Channel, Control, ModuleState, Due, Effect, Request, Reply, value, cut_to}
use Rattle.flow_design.specs.{expressions_of, kind_and_channel, no_channel, block_at, block_of, operation_at, is_loop, interval, live_count}
use Rattle.flow_design.specs.{temps_of, due}
use Rattle.flow_design.specs.declared.design.Module.{Module}
use Rattle.flow_design.specs.declared.expr.Op.TheVariants.{Set, Load, Store, Read, Write, TryRead, TryWrite, Empty, Full}
use Rattle.flow_design.specs.declared.design.BlockKind.TheVariants.{Plain, Loop}
use Rattle.flow_design.specs.declared.design.Next.TheVariants.{Goto, Branch, Stop}
use Rattle.flow_design.specs.declared.state.Effect.TheVariants.{Variable, Word}
use Rattle.flow_design.specs.declared.state.Reply.TheVariants.{Done, Value, Flag, Took, Missed}

-- ---- what a module asks of the channels

abbrev pub width_of : List Channel → ℕ → ℕ
width_of channels f = (slice_index_or channels f no_channel).width

-- the value of an expression in a live iteration
abbrev pub value_of : ModuleState → ℕ → Expr ℕ → ℕ
value_of s iteration e = value s.registers (temps_of s iteration) e

-- what a FIFO operation pushes: the value of its expression, cut to the channel's width; 0 where it has none
abbrev pub word_pushed : List Channel → ModuleState → ℕ → ℕ → List (Expr ℕ) → ℕ
word_pushed channels s i f [] = 0
word_pushed channels s i f (e ∷ es) = cut_to (width_of channels f) (value_of s i e)

-- the request of an operation; none where it is no FIFO operation
abbrev pub request_of : List Channel → ModuleState → ℕ → Op ℕ → Option Request
request_of channels s i op =
    option_map (λ a. record { kind = a.0; channel = a.1; value = word_pushed channels s i a.1 (expressions_of op) }) (kind_and_channel op)

abbrev pub request_for : List Channel → Module → ModuleState → Due → Option Request
request_for channels m s d = request_of channels s d.iteration (operation_at (block_of m s) d.op).op

-- the requests of the due FIFO operations, in commit order
unfoldable pub requests : List Channel → Module → ModuleState → List Request
requests channels m s = filter_map (request_for channels m s) (due m s)

-- ---- commits

-- a reply says yes: the operation was done, or the test held
abbrev pub is_yes : Reply → Bool
is_yes Done = true
is_yes (Value v) = true
is_yes (Flag b) = b
is_yes (Took v) = true
is_yes Missed = false

-- the value in a reply to an operation that popped one, else 0
abbrev pub value_in : Reply → ℕ
value_in Done = 0
value_in (Value v) = v
value_in (Flag b) = 0
value_in (Took v) = v
value_in Missed = 0

abbrev pub memory_of : ModuleState → ℕ → List ℕ
memory_of s n = slice_index_or s.memories n []

-- an address counts modulo the memory's length
abbrev pub address_in : ModuleState → ℕ → ℕ → ℕ
address_in s n address = address % length (memory_of s n)

-- what an operation of a live iteration writes, from the values before the clock and the operation's reply
abbrev pub effects_of : ModuleState → ℕ → Op ℕ → Reply → List Effect
effects_of s i (Set x e) r = Variable i x (value_of s i e) ∷ []
effects_of s i (Load x n e) r = Variable i x (slice_index (memory_of s n) (address_in s n (value_of s i e))) ∷ []
effects_of s i (Store n e a) r = Word n (address_in s n (value_of s i e)) (value_of s i a) ∷ []
effects_of s i (Read f x) r = Variable i x (value_in r) ∷ []
effects_of s i (Write f e) r = []
effects_of s i (TryRead f x ok) r = (if is_yes r then Variable i x (value_in r) ∷ [] else []) ++ Variable i ok (from_bool (is_yes r)) ∷ []
effects_of s i (TryWrite f ok e) r = Variable i ok (from_bool (is_yes r)) ∷ []
effects_of s i (Empty f x) r = Variable i x (from_bool (is_yes r)) ∷ []
effects_of s i (Full f x) r = Variable i x (from_bool (is_yes r)) ∷ []

abbrev pub is_fifo_operation : Op ℕ → Bool
is_fifo_operation op = is_some (kind_and_channel op)

-- what the due operations write, in commit order; each FIFO operation takes the next reply
abbrev pub effects : Block → ModuleState → List Due → List Reply → List Effect
effects b s [] replies = []
effects b s (d ∷ ds) replies =
    let op = (operation_at b d.op).op in
    effects_of s d.iteration op (slice_index_or replies 0 Done) ++ effects b s ds (if is_fifo_operation op then drop 1 replies else replies)

-- the state after an effect: its value is cut to the width of the place that takes it
abbrev pub stored : Module → Block → ModuleState → Effect → ModuleState
stored m b s (Variable i x v) =
    if nat_lt x (length m.registers)
    then record s { registers = slice_set s.registers x (cut_to (slice_index m.registers x) v) }
    else (let t = x - length m.registers in
    record s { temps = slice_set s.temps i (slice_set (temps_of s i) t (cut_to (slice_index b.temps t) v)) })
stored m b s (Word n address v) =
    record s {
      memories = slice_set s.memories n
          (slice_set (memory_of s n) address (cut_to (slice_index (map (λ memory. memory.width) m.memories) n) v));
    }

-- all due operations commit together on the values from before, and the last write to a place wins
abbrev pub committed : Module → ModuleState → List Reply → ModuleState
committed m s replies = fold (stored m (block_of m s)) s (effects (block_of m s) s (due m s) replies)

-- ---- control

abbrev pub again_of : BlockKind → ℕ
again_of Plain = 0
again_of (Loop ii again) = again

-- the temps of an iteration at its start: each is 0
abbrev pub fresh_temps : Block → List ℕ
fresh_temps b = replicate (length b.temps) 0

-- the module enters a block, whose first iteration starts
unfoldable pub entered : Module → ℕ → ModuleState → ModuleState
entered m n s = record s {
  control = record { block = n; clock = 0; newest = 0; looping = is_loop (block_at m n).kind };
  temps = fresh_temps (block_at m n) ∷ [];
  count = s.count + 1;
}

-- the local clock goes up by one, and the temps of an iteration that is no longer live are dropped
unfoldable pub ticked : Block → ModuleState → ModuleState
ticked b s =
    let k = record s.control { clock = s.control.clock + 1 } in
    record s { control = k; temps = drop (length s.temps - live_count b k) s.temps }

-- the next iteration starts
abbrev pub started : Block → ModuleState → ModuleState
started b s = record s {
  control = record s.control { newest = s.control.clock };
  temps = s.temps ++ fresh_temps b ∷ [];
  count = s.count + 1;
}

-- no further iteration starts
abbrev pub stopped : ModuleState → ModuleState
stopped s = record s { control = record s.control { looping = false } }

-- where the newest iteration of a loop has been live for II local clocks, its register decides whether the next one starts
unfoldable pub decided : Block → ModuleState → ModuleState
decided b s =
    if s.control.looping && (s.control.clock - s.control.newest == interval b)
    then (if slice_index s.registers (again_of b.kind) == 0 then stopped s else started b s)
    else s

-- the module goes where the terminator leads
abbrev pub followed : Module → Next → ModuleState → ModuleState
followed m (Goto n) s = entered m n s
followed m (Branch r n other) s = entered m (if slice_index s.registers r == 0 then other else n) s
followed m Stop s = record s { ended = true }

-- the block is over LEN local clocks after the start of its newest iteration, once no further one starts
abbrev pub is_block_over : Block → Control → Bool
is_block_over b k = not k.looping && nat_le b.len (k.clock - k.newest)

unfoldable pub finished : Module → Block → ModuleState → ModuleState
finished m b s = if is_block_over b s.control then followed m b.next s else s

-- one local clock: the due operations commit and count, the clock goes up, the loop decides, and the block may end
unfoldable pub move : Module → ModuleState → List Reply → ModuleState
move m s replies =
    let b = block_of m s in
    finished m b (decided b (ticked b (record (committed m s replies) { count = s.count + length (due m s) })))

-- ---- the first state, and the last

-- local clock 0 of the first block, with all registers and words 0
unfoldable pub opened : Module → ModuleState
opened m = entered m 0 (record {
  control = record { block = 0; clock = 0; newest = 0; looping = false };
  registers = replicate (length m.registers) 0;
  memories = map (λ memory. replicate memory.len 0) m.memories;
  temps = [];
  count = 0;
  ended = false;
})

-- the default where a number names no module: the state of a module that is ended
abbrev pub nobody : ModuleState
nobody = record {
  control = record { block = 0; clock = 0; newest = 0; looping = false };
  registers = [];
  memories = [];
  temps = [];
  count = 0;
  ended = true;
}

-- a module is spent: it is not ended, and its operation count is at least the limit
abbrev pub is_spent : ℕ → ModuleState → Bool
is_spent limit s = not s.ended && nat_le limit s.count

-- a module is over: it is ended or spent, and moves no more
unfoldable pub is_over : ℕ → ModuleState → Bool
is_over limit s = s.ended || is_spent limit s
