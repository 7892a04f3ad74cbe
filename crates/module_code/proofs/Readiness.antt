-- In a sound state each due operation finds what it looks up.
use Rattle.std.proofs.Common.{◌≡◌, refl, ◌∙◌, arith, ℕ, ◌-◌, ◌*◌, ◌<◌, ◌≤◌, ◌==◌, List, [], ◌∷◌, map, length, get_or, length-append, Bool}
use Rattle.std.proofs.Common.{not}
use Rattle.std.proofs.lemmas.List.{get_or-map, length-map}
use Rattle.std.proofs.{lemmas.List.Filters.length-filter_both, lemmas.List.FromFn.length-enumerate_from}
use Rattle.std.specs.List.{All, filter, flat_map, enumerate_from}
use Rattle.flow_design.specs.declared.limits.TheConstants.{LIVE_ITERATIONS, OPERATIONS}
use Rattle.flow_design.specs.declared.design.Module.{Module}
use Rattle.flow_design.specs.declared.expr.Op.TheVariants.{Set, Load, Store, Read, Write, TryRead, TryWrite, Empty, Full}
use Rattle.module_code.specs.{Block, Memory, Timed, Op, Due, ModuleState, block_of, operation_at, no_operation, interval, live_count}
use Rattle.module_code.specs.{ages_down, ages, temps_of, passes, due_at, due_in, due, IsModuleSound, IsMemorySound, IsTimedSound}
use Rattle.module_code.specs.{IsOperationSound, memory_of, IsOperationReady, IsStateSound, IsDueSound}
use Rattle.lockstep_defs.proofs.{Blocks.block_sound, Blocks.some_interval, Blocks.span, Live.length-ages_down}
use Rattle.module_code.proofs.Begins.{live_count_is, few_live}

-- ---- what an operation looks up

abbrev no_memory : Memory
no_memory = record { width = 1; len = 0 }

memory_some : (m : Module) (s : ModuleState) (n : ℕ)
    → length (memory_of s n) ≡ get_or (map (λ (memory : Memory). memory.len) m.memories) n 0 → All IsMemorySound m.memories
    → n < length m.memories → 0 < length (memory_of s n)
memory_some m s n size words there =
    let len : get_or (map (λ (memory : Memory). memory.len) m.memories) n 0
    ≡ (get_or m.memories n no_memory).len = get_or-map (λ (memory : Memory). memory.len) m.memories n no_memory 0 there in
    let some : 1 ≤ (get_or m.memories n no_memory).len = (words n no_memory there).least in
    rw (size, len) some

ready_by : (channels : ℕ) (m : Module) (s : ModuleState) (i temps : ℕ) (op : Op ℕ) → IsOperationSound channels m temps op
    → length s.registers ≡ length m.registers → length (temps_of s i) ≡ temps
    → ((n : ℕ) → n < length m.memories → 0 < length (memory_of s n)) → IsOperationReady s i op
ready_by channels m s i temps (Set x e) h registers same words = rw (registers, same) (h.expressions 0 e (omega arith)).variables
ready_by channels m s i temps (Load x n e) h registers same words =
    (rw (registers, same) (h.expressions 0 e (omega arith)).variables, words n h.memory)
ready_by channels m s i temps (Store n e a) h registers same words = (
  rw (registers, same) (h.expressions 0 e (omega arith)).variables,
  rw (registers, same) (h.expressions 1 a (omega arith)).variables,
  words n h.memory,
)
ready_by channels m s i temps (Read f x) h registers same words = tt
ready_by channels m s i temps (Write f e) h registers same words =
    rw (registers, same) (h.expressions 0 e (omega arith)).variables
ready_by channels m s i temps (TryRead f x ok) h registers same words = tt
ready_by channels m s i temps (TryWrite f ok e) h registers same words =
    rw (registers, same) (h.expressions 0 e (omega arith)).variables
ready_by channels m s i temps (Empty f x) h registers same words = tt
ready_by channels m s i temps (Full f x) h registers same words = tt

pub op_ready : (channels : ℕ) (m : Module) (s : ModuleState) (d : Due) → IsModuleSound channels m → IsStateSound m s → IsDueSound m s d
    → IsOperationReady s d.iteration (operation_at (block_of m s) d.op).op
op_ready channels m s d h sound there =
    let block = block_sound channels m s.control.block h sound.state.block in
    let timed : IsTimedSound channels m (block_of m s) (operation_at (block_of m s) d.op) = block.operations d.op no_operation there.op in
    ready_by channels m s d.iteration (length (block_of m s).temps) _ timed.operation sound.state.places.registers
    (sound.state.places.each_temps d.iteration (rw sound.state.places.temps at there.iteration))
    (λ n inside. memory_some m s n (sound.state.places.words n) h.words inside)

-- ---- how many operations are due

short_parts : {X Y : Type 0} (most : ℕ) (f : X → List Y) (xs : List X) → ((x : X) → length (f x) ≤ most)
    → length (flat_map f xs) ≤ length xs * most
short_parts most f [] short = omega arith
short_parts most f (x ∷ xs) short =
    let rest = short_parts most f xs short in
    let front = short x in
    omega (arith, length-append (f x) (flat_map f xs))

pub fewer_pass : {X : Type 0} (p : X → Bool) (xs : List X) → length (filter p xs) ≤ length xs
fewer_pass p xs = omega (arith, length-filter_both p (λ x. not (p x)) (λ x. refl) xs)

due_at_few : (b : Block) (offset : ℕ) → length (due_at b offset) ≤ length b.ops
unfolding due_at
due_at_few b offset = rw length-map
    (omega (arith, fewer_pass (λ (t : ℕ × Timed). (t.1).offset == offset) (enumerate_from 0 b.ops), length-enumerate_from 0 b.ops))

due_in_few : (b : Block) (s : ModuleState) (it : ℕ × ℕ) → length (due_in b s it) ≤ length b.ops
due_in_few b s it =
    rw length-map (omega (
      arith,
      fewer_pass (λ n. passes s.registers (temps_of s it.0) (operation_at b n).guard) (due_at b it.1),
      due_at_few
          b it.1,
    ))

-- at most so many live iterations
pub few_are_live : (channels : ℕ) (m : Module) (s : ModuleState) → IsModuleSound channels m → IsStateSound m s
    → live_count (block_of m s) s.control ≤ LIVE_ITERATIONS
few_are_live channels m s h sound =
    let b = block_of m s in
    let block = block_sound channels m s.control.block h sound.state.block in
    let age = s.control.clock - s.control.newest in
    let live : age < b.len = omega (arith, sound.state.control.has_started, sound.state.young sound.running) in
    let quotient = few_live b.len (interval b) age (some_interval channels m b block) (span channels m b block) live in
    omega (arith, live_count_is b s.control live, quotient)

-- of at most so many operations
pub few_due : (channels : ℕ) (m : Module) (s : ModuleState) → IsModuleSound channels m → IsStateSound m s
    → length (due m s) ≤ LIVE_ITERATIONS * OPERATIONS
unfolding due ages
few_due channels m s h sound =
    let b = block_of m s in
    let block = block_sound channels m s.control.block h sound.state.block in
    let age = s.control.clock - s.control.newest in
    let count : live_count b s.control ≤ LIVE_ITERATIONS = few_are_live channels m s h sound in
    let listed : length (enumerate_from 0 (ages_down (interval b) age (live_count b s.control)))
    ≡ live_count b s.control = length-enumerate_from 0 _ ∙ length-ages_down _ _ (live_count b s.control) in
    let each : (it : ℕ × ℕ) → length (due_in b s it) ≤ OPERATIONS = λ it. omega (arith, due_in_few b s it, block.count) in
    omega (arith, short_parts OPERATIONS (due_in b s) (enumerate_from 0 (ages_down (interval b) age (live_count b s.control))) each, listed)
