-- The opening is a state of its module, and a move leads to one.
use Rattle.std.proofs.Common.{◌≡◌, ℕ, zero, suc, ◌+◌, ◌-◌, ◌≤◌, ◌<◌, List, [], ◌∷◌, ◌++◌, length, get_or, set, replicate, map, Bool, true}
use Rattle.std.proofs.Common.{false, ◌||◌, ◌&&◌, not, cond, refl, sym, ◌∙◌, ap, subst, arith, ◌==◌, nat_lt, length-append}
use Rattle.std.proofs.lemmas.Bool.{leb-false, ltb-true, ltb-false, lt-ltb, eqb-true, and_from, cond_both, and_parts}
use Rattle.std.proofs.lemmas.List.{length-set, length-map, length-drop, get_or-drop, length-replicate, get_or_push}
use Rattle.std.proofs.{Math.Nat.suc-mul, Math.ListN.get_or-append}
use Rattle.std.specs.{Prelude.nat_le, Prelude.slice_index, List.fold}
use Rattle.lockstep_defs.specs.{Block, Memory, Next, Plan, Control, Effect, ModuleState, Reply, no_block, block_at, block_of, is_loop}
use Rattle.lockstep_defs.specs.{interval, live_count, due, IsNextSound, IsBlockSound, IsModuleSound, FitsEngine, effects, stored, entered}
use Rattle.lockstep_defs.specs.{ticked, decided, fresh_temps, started, finished, followed, again_of, is_block_over, move, opened, reply}
use Rattle.lockstep_defs.specs.{HasAllPlaces, IsWithin, IsStateOf, no_module, module_at, requests_of, moves, state, state_at}
use Rattle.flow_design.specs.declared.design.Module.{Module}
use Rattle.flow_design.specs.declared.design.Next.TheVariants.{Goto, Branch, Stop}
use Rattle.flow_design.specs.declared.state.Effect.TheVariants.{Variable, Word}
use Rattle.lockstep_defs.proofs.Agrees.{state_at-zero, state_at-suc, is_on, not_ended}
use Rattle.lockstep_defs.proofs.{Blocks.some_interval, Blocks.short_interval, Live.live_iff}
use Rattle.lockstep_defs.proofs.Moves.{commits_keep, counted, same_control, same_block as kept_block, first_goes, tick_goes, rest_of_move}

-- ---- how many iterations are live

at_most : (a b : ℕ) → ((b < a) → ⊥) → a ≤ b
at_most a b h = by_test (nat_lt b a) refl
  where
    by_test : (t : Bool) → nat_lt b a ≡ t → a ≤ b
    by_test true e = absurd (h (ltb-true b a e))
    by_test false e = ltb-false b a e

-- the first iteration of a block
live_first : (b : Block) (k : Control) → 0 < interval b → 0 < b.len → k.clock ≡ 0 → k.newest ≡ 0 → live_count b k ≡ 1
live_first b k pos some clock newest =
    let one : 0 < live_count b k = (live_iff b k 0 pos).1 (record { has_started = omega arith; is_young = omega arith }) in
    omega (arith, at_most (live_count b k) 1 (λ more. let live = (live_iff b k 1 pos).0 more in omega (arith, live.has_started)))

-- a local clock later no more are live
live_ticks : (b : Block) (k j : Control) → 0 < interval b → j.clock ≡ k.clock + 1 → k.newest ≤ k.clock → j.newest ≡ k.newest
    → live_count b j ≤ live_count b k
live_ticks b k j pos clock begun newest = at_most (live_count b j) (live_count b k) (λ more.
    let live = (live_iff b j (live_count b k) pos).0 more in
    let still = (live_iff b k (live_count b k) pos).1
    (record { has_started = omega (arith, live.has_started); is_young = omega (arith, live.is_young) }) in
    omega arith)

one_more : (a b : ℕ) → 0 < a → ((j : ℕ) → suc j < a → j < b) → ((j : ℕ) → j < b → suc j < a) → a ≡ suc b
one_more a b some down up =
    let high = at_most a (suc b) (λ more. let less = down b more in omega arith) in
    low b up high
  where
    low : (b : ℕ) → ((j : ℕ) → j < b → suc j < a) → a ≤ suc b → a ≡ suc b
    low zero up high = omega arith
    low (suc b) up high = omega (arith, up b (omega arith))

-- where an iteration starts II after the newest one, one more is live
live_starts : (b : Block) (k j : Control) → 0 < interval b → 0 < b.len → j.clock ≡ k.clock → j.newest ≡ k.clock
    → k.clock ≡ k.newest + interval b
    → live_count b j ≡ suc (live_count b k)
live_starts b k j pos some clock newest old = one_more (live_count b j) (live_count b k)
    ((live_iff b j 0 pos).1 (record { has_started = omega arith; is_young = omega arith }))
    (λ n h.
    let live = (live_iff b j (suc n) pos).0 h in
    let e = suc-mul n (interval b) in
    (live_iff b k n pos).1 (record { has_started = omega (arith, live.has_started); is_young = omega (arith, live.is_young) }))
    (λ n h.
    let live = (live_iff b k n pos).0 h in
    let e = suc-mul n (interval b) in
    (live_iff b j (suc n) pos).1 (record { has_started = omega (arith, live.has_started); is_young = omega (arith, live.is_young) }))

-- ---- commits keep the places

-- a list in a list is written at one place
length-set_within : (xss : List (List ℕ)) (k n a v : ℕ)
    → length (get_or (set xss k (set (get_or xss k []) a v)) n []) ≡ length (get_or xss n [])
length-set_within [] k n a v = refl
length-set_within (xs ∷ xss) zero zero a v = length-set xs a v
length-set_within (xs ∷ xss) zero (suc n) a v = refl
length-set_within (xs ∷ xss) (suc k) zero a v = refl
length-set_within (xs ∷ xss) (suc k) (suc n) a v = length-set_within xss k n a v

pub stored_places : (m : Module) (b : Block) (n : ℕ) (s : ModuleState) (e : Effect) → HasAllPlaces m b n s
    → HasAllPlaces m b n (stored m b s e)
stored_places m b n s (Variable i x v) h = cond_both (nat_lt x (length m.registers)) _ _ (HasAllPlaces m b n)
    (λ e. record {
      registers = length-set s.registers x _ ∙ h.registers;
      memories = h.memories;
      words = h.words;
      temps = h.temps;
      each_temps = h.each_temps;
    })
    (λ e. record {
      registers = h.registers;
      memories = h.memories;
      words = h.words;
      temps = length-set s.temps i _ ∙ h.temps;
      each_temps = λ j l. length-set_within s.temps i j (x - length m.registers) _ ∙ h.each_temps j l;
    })
stored_places m b n s (Word k a v) h = record {
  registers = h.registers;
  memories = length-set s.memories k _ ∙ h.memories;
  words = λ j. length-set_within s.memories k j a _ ∙ h.words j;
  temps = h.temps;
  each_temps = h.each_temps;
}

all_places : (m : Module) (b : Block) (n : ℕ) (s : ModuleState) (es : List Effect) → HasAllPlaces m b n s
    → HasAllPlaces m b n (fold (stored m b) s es)
all_places m b n s [] h = h
all_places m b n s (e ∷ es) h = all_places m b n (stored m b s e) es (stored_places m b n s e h)

-- ---- entering a block

fresh_each : (b : Block) (i : ℕ) → i < 1 → length (get_or (fresh_temps b ∷ []) i []) ≡ length b.temps
fresh_each b zero l = length-replicate {A = ℕ} (length b.temps) 0
fresh_each b (suc i) l = absurd (omega arith)

entered_state : (c : ℕ) (m : Module) → IsModuleSound c m → (b : Block) (iterations n : ℕ) (s : ModuleState) → HasAllPlaces m b iterations s
    → n < length m.blocks → IsStateOf m (entered m n s)
unfolding entered
entered_state c m sound b iterations n s h l =
    let to = block_at m n in
    let here = sound.blocks n no_block l in
    let pos = some_interval c m to here in
    let k : Control = record { block = n; clock = 0; newest = 0; looping = is_loop to.kind } in
    let one : live_count to k ≡ 1 = live_first to k pos here.least refl refl in
    record {
      block = l;
      places = record {
        registers = h.registers;
        memories = h.memories;
        words = h.words;
        temps = sym one;
        each_temps = λ i less. fresh_each to i (omega arith);
      };
      control = record {
        has_started = omega arith;
        is_loop_going = λ e. e;
        goes = first_goes (is_loop to.kind) (interval to) (λ e. pos);
      };
      young = λ e. omega (arith, here.least);
    }

-- ---- the middle of a move

-- after the clock has gone up and the loop has decided: as a state, but the block may be over
record Passed (m : Module) (b : Block) (v : ModuleState) : Type 0 where
  at_block : v.control.block < length m.blocks
  same_block : block_of m v ≡ b
  places : HasAllPlaces m b (live_count b v.control) v
  control : IsWithin b v.control
  not_past : v.control.looping ≡ true → v.control.clock < v.control.newest + b.len
  alive : v.ended ≡ false

-- the clock goes up
ticked_places : (m : Module) (b : Block) (s : ModuleState) → 0 < interval b → s.control.newest ≤ s.control.clock
    → HasAllPlaces m b (live_count b s.control) s → HasAllPlaces m b (live_count b (ticked b s).control) (ticked b s)
unfolding ticked
ticked_places m b s pos begun h =
    let k = record s.control { clock = s.control.clock + 1 } in
    let fewer : live_count b k ≤ live_count b s.control = live_ticks b s.control k pos refl begun refl in
    let gone = length s.temps - live_count b k in
    record {
      registers = h.registers;
      memories = h.memories;
      words = h.words;
      temps = omega (arith, length-drop gone s.temps, h.temps);
      each_temps = λ i l. ap length (get_or-drop gone s.temps i []) ∙ h.each_temps (gone + i) (omega (arith, h.temps));
    }

pushed_each : (b : Block) (xs : List (List ℕ)) (i : ℕ) → ((j : ℕ) → j < length xs → length (get_or xs j []) ≡ length b.temps)
    → i < suc (length xs) → length (get_or (xs ++ fresh_temps b ∷ []) i []) ≡ length b.temps
pushed_each b xs i h l = by_test (nat_lt i (length xs)) refl
  where
    by_test : (t : Bool) → nat_lt i (length xs) ≡ t → length (get_or (xs ++ fresh_temps b ∷ []) i []) ≡ length b.temps
    by_test true e =
        let old = ltb-true i (length xs) e in
        ap length (get_or-append xs (fresh_temps b ∷ []) [] i old) ∙ h i old
    by_test false e =
        let past = ltb-false i (length xs) e in
        ap length (get_or_push xs (fresh_temps b) [] i (omega arith)) ∙ length-replicate {A = ℕ} (length b.temps) 0

started_places : (m : Module) (b : Block) (u : ModuleState) → 0 < interval b → 0 < b.len → u.control.clock ≡ u.control.newest + interval b
    → HasAllPlaces m b (live_count b u.control) u → HasAllPlaces m b (live_count b (started b u).control) (started b u)
started_places m b u pos some old h =
    let k : Control = record u.control { newest = u.control.clock } in
    let more : live_count b k ≡ suc (live_count b u.control) = live_starts b u.control k pos some refl refl old in
    record {
      registers = h.registers;
      memories = h.memories;
      words = h.words;
      temps = omega (arith, length-append {A = List ℕ} u.temps (fresh_temps b ∷ []), h.temps);
      each_temps = λ i l. pushed_each b u.temps i (λ j less. h.each_temps j (omega (arith, h.temps))) (omega (arith, h.temps));
    }

-- the loop decides
still_young : (l : Bool) (i c s n : ℕ) → i ≤ n → (not l || (nat_lt 0 i && nat_lt c (s + i))) ≡ true → l ≡ true → c < s + n
still_young true i c s n h f e = let young = ltb-true c (s + i) (and_parts (nat_lt 0 i) (nat_lt c (s + i)) f).1 in omega arith
still_young false i c s n h f e = cc

-- the newest iteration is II local clocks old
now_old : (l : Bool) (i c s : ℕ) → s ≤ c → (l && (c + 1 - s == i)) ≡ true → c + 1 ≡ s + i
now_old true i c s h d = let old = eqb-true (c + 1 - s) i d in omega arith
now_old false i c s h d = cc

going : (l : Bool) (i c s : ℕ) → (l && (c + 1 - s == i)) ≡ true → l ≡ true
going true i c s d = refl
going false i c s d = cc

start_goes : (l : Bool) (i c : ℕ) → 0 < i → (not l || (nat_lt 0 i && nat_lt c (c + i))) ≡ true
start_goes true i c pos = and_from _ _ (lt-ltb 0 i pos) (lt-ltb c (c + i) (omega arith))
start_goes false i c pos = refl

decided_passed : (c : ℕ) (m : Module) (t : ModuleState) → t.control.block < length m.blocks → IsBlockSound c m (block_of m t)
    → t.ended ≡ false
    → HasAllPlaces m (block_of m t) (live_count (block_of m t) t.control) t → IsWithin (block_of m t) t.control
    → Passed m (block_of m t) (decided (block_of m t) (ticked (block_of m t) t))
unfolding decided ticked
decided_passed c m t l sound alive h w =
    let b = block_of m t in
    let k = t.control in
    let u = ticked b t in
    let pos = some_interval c m b sound in
    let gone = ticked_places m b t pos w.has_started h in
    cond_both (k.looping && (k.clock + 1 - k.newest == interval b)) _ u (Passed m b)
    (λ d. cond_both (slice_index u.registers (again_of b.kind) == 0) _ _ (Passed m b)
    (λ z. record {
      at_block = l;
      same_block = refl;
      places = record {
        registers = gone.registers;
        memories = gone.memories;
        words = gone.words;
        temps = gone.temps;
        each_temps = gone.each_temps;
      };
      control = record { has_started = omega (arith, w.has_started); is_loop_going = λ e. cc; goes = refl };
      not_past = λ e. cc;
      alive = alive;
    })
    (λ z. record {
      at_block = l;
      same_block = refl;
      places = started_places m b u pos sound.least (now_old k.looping (interval b) k.clock k.newest w.has_started d) gone;
      control = record {
        has_started = omega arith;
        is_loop_going = w.is_loop_going;
        goes = start_goes k.looping (interval b) (k.clock + 1) pos;
      };
      not_past = λ e. omega (arith, sound.least);
      alive = alive;
    }))
    (λ d.
    let goes = tick_goes k.looping (interval b) k.clock k.newest w.goes d in
    record {
      at_block = l;
      same_block = refl;
      places = gone;
      control = record { has_started = omega (arith, w.has_started); is_loop_going = w.is_loop_going; goes = goes };
      not_past = still_young k.looping (interval b) (k.clock + 1) k.newest b.len (short_interval c m b sound) goes;
      alive = alive;
    })

-- ---- the end of a move

on_block : (m : Module) (b : Block) (v : ModuleState) → v.control.block < length m.blocks → block_of m v ≡ b
    → HasAllPlaces m b (live_count b v.control) v
    → IsWithin b v.control → (v.ended ≡ false → v.control.clock < v.control.newest + b.len) → IsStateOf m v
on_block m b v l same h w y = record {
  block = l;
  places = subst (λ (c : Block). HasAllPlaces m c (live_count c v.control) v) (sym same) h;
  control = subst (λ (c : Block). IsWithin c v.control) (sym same) w;
  young = λ e. subst (λ (c : Block). v.control.clock < v.control.newest + c.len) (sym same) (y e);
}

ended_state : (m : Module) (b : Block) (v : ModuleState) → Passed m b v → IsStateOf m (record v { ended = true })
ended_state m b v h =
    let places = h.places in
    on_block m b (record v { ended = true }) h.at_block h.same_block
    (record {
      registers = places.registers;
      memories = places.memories;
      words = places.words;
      temps = places.temps;
      each_temps = places.each_temps;
    })
    h.control (λ e. cc)

followed_state : (c : ℕ) (m : Module) → IsModuleSound c m → (b : Block) (x : Next) → IsNextSound (length m.registers) (length m.blocks) x
    → (v : ModuleState) → Passed m b v → IsStateOf m (followed m x v)
followed_state c m sound b (Goto n) l v h = entered_state c m sound b (live_count b v.control) n v h.places l
followed_state c m sound b (Branch r n other) l v h =
    cond_both (slice_index v.registers r == 0) other n (λ (to : ℕ). IsStateOf m (entered m to v))
    (λ e. entered_state c m sound b (live_count b v.control) other v h.places l.2)
    (λ e. entered_state c m sound b (live_count b v.control) n v h.places l.1)
followed_state c m sound b Stop l v h = ended_state m b v h

going_on : (l : Bool) (n c s : ℕ) → (not l && nat_le n (c - s)) ≡ false → (l ≡ true → c < s + n) → c < s + n
going_on true n c s e h = h refl
going_on false n c s e h = let young = leb-false n (c - s) e in omega arith

finished_state : (c : ℕ) (m : Module) → IsModuleSound c m → (b : Block) → IsBlockSound c m b → (v : ModuleState) → Passed m b v
    → IsStateOf m (finished m b v)
unfolding finished
finished_state c m sound b here v h = cond_both (is_block_over b v.control) _ v (IsStateOf m)
    (λ e. followed_state c m sound b b.next here.next v h)
    (λ e. on_block m b v h.at_block h.same_block h.places h.control
    (λ _. going_on v.control.looping b.len v.control.clock v.control.newest e h.not_past))

-- ---- a whole move

moved_on : (c : ℕ) (m : Module) → IsModuleSound c m → (t : ModuleState) → t.control.block < length m.blocks → t.ended ≡ false
    → HasAllPlaces m (block_of m t) (live_count (block_of m t) t.control) t → IsWithin (block_of m t) t.control
    → IsStateOf m (rest_of_move m (block_of m t) t)
moved_on c m sound t l alive h w =
    let here = sound.blocks t.control.block no_block l in
    finished_state c m sound (block_of m t) here _ (decided_passed c m t l here alive h w)

-- a module that is not ended moves to a state
pub move_state : (c : ℕ) (m : Module) → IsModuleSound c m → (s : ModuleState) (replies : List Reply) → IsStateOf m s → s.ended ≡ false
    → IsStateOf m (move m s replies)
unfolding move
move_state c m sound s replies h alive =
    let t = counted m s replies in
    let control = same_control m s replies in
    let places = all_places m (block_of m s) (live_count (block_of m s) s.control) s (effects (block_of m s) s (due m s) replies) h.places
    in
    let placed : HasAllPlaces m (block_of m s) (live_count (block_of m s) s.control) t = record {
      registers = places.registers;
      memories = places.memories;
      words = places.words;
      temps = places.temps;
      each_temps = places.each_temps;
    } in
    subst (λ (b : Block). IsStateOf m (rest_of_move m b t)) (kept_block m s replies)
    (moved_on c m sound t (subst (λ (k : Control). k.block < length m.blocks) (sym control) h.block)
    ((commits_keep m s replies).2 ∙ alive)
    (subst (λ (k : Control). HasAllPlaces m (block_at m k.block) (live_count (block_at m k.block) k) t) (sym control) placed)
    (subst (λ (k : Control). IsWithin (block_at m k.block) k) (sym control) h.control))

-- the opening is a state
pub opened_state : (c : ℕ) (m : Module) → IsModuleSound c m → IsStateOf m (opened m)
unfolding opened
opened_state c m sound = entered_state c m sound no_block 0 0 _ (record {
  registers = length-replicate {A = ℕ} (length m.registers) 0;
  memories = length-map m.memories (λ memory. replicate memory.len 0);
  words = words m.memories;
  temps = refl;
  each_temps = λ i l. absurd (omega arith);
}) sound.some
  where
    words : (ms : List Memory) (n : ℕ)
        → length {A = ℕ} (get_or (map (λ memory. replicate memory.len 0) ms) n []) ≡ slice_index (map (λ memory. memory.len) ms) n
    words [] n = refl
    words (memory ∷ ms) zero = length-replicate {A = ℕ} memory.len 0
    words (memory ∷ ms) (suc n) = words ms n

-- ---- the states of the history

-- each module of a plan that the engine takes stands in one of its states in every clock
pub history_state : (p : Plan) → FitsEngine p → (c i : ℕ) → i < length p.design.modules → IsStateOf (module_at p i) (state_at p c i)
history_state p h zero i l = rw (state_at-zero p i l) (opened_state (length p.design.channels) (module_at p i) (h.modules i no_module l))
history_state p h (suc c) i l =
    rw (state_at-suc p c i l) (by_test (moves p c (state p c).contents (i, state_at p c i)) refl (history_state p h c i l))
  where
    by_test : (b : Bool) → moves p c (state p c).contents (i, state_at p c i) ≡ b → IsStateOf (module_at p i) (state_at p c i)
        → IsStateOf (module_at p i) (cond b
        (move (module_at p i) (state_at p c i) (map (reply p c (state p c).contents) (requests_of p (i, state_at p c i))))
        (state_at p c i))
    by_test false e now = now
    by_test true e now =
        move_state (length p.design.channels) (module_at p i) (h.modules i no_module l) (state_at p c i) _ now
        (not_ended p.ops (state_at p c i) (is_on p c (state p c).contents (i, state_at p c i) e))
