-- A serial iteration, offset by offset.
use Rattle.std.proofs.Common.{◌≡◌, ℕ, zero, suc, ◌+◌, ◌≤◌, ◌<◌, List, [], ◌∷◌, length, get_or, map, Bool, true, false, refl, sym, ◌∙◌, ap}
use Rattle.std.proofs.Common.{subst, arith, nat_lt}
use Rattle.std.proofs.{lemmas.Bool.ltb-true, lemmas.Bool.ltb-false, lemmas.List.length-replicate}
use Rattle.std.specs.{Prelude.slice_index, List.fold, List.enumerate_from}
use Rattle.serial_order.specs.{Block, Timed, Control, ModuleState, block_at, block_of, interval, live_count, ages, requests, fresh_temps}
use Rattle.serial_order.specs.{memory_of, Used, writes, SerialProgress, alone_at, all_given, clock_made, iteration}
use Rattle.serial_order.specs.declared.order.Used.TheVariants.{Register, Memory, Reading, Writing}
use Rattle.flow_design.specs.declared.design.Module.{Module}
use Rattle.lockstep_defs.proofs.{Live.live_iff, Moves.commits_keep}
use Rattle.serial_order.proofs.{Lists.Among, Alike.held, Applied.Placed}
use Rattle.serial_order.proofs.Outcomes.{Setting, setting_of, PopsOnce, iteration_done, clock_by_iterations}
use Rattle.serial_order.proofs.Iterations.{IsBodySound, iteration_places, thing_left}

-- ---- one iteration alone

-- a block without queries that keeps the static rules
pub record IsFit (c : Setting) : Type 0 where
  pub sound : IsBodySound c
  pub some : 0 < interval c.block
  pub pops : PopsOnce c.block

-- the registers and memories of a module
pub record HasStores (m : Module) (s : ModuleState) : Type 0 where
  pub registers : length s.registers ≡ length m.registers
  pub memories : length s.memories ≡ length m.memories
  pub words : (n : ℕ) → length (memory_of s n) ≡ slice_index (map (λ memory. memory.len) m.memories) n

-- a run that stands in the block
pub record Stands (c : Setting) (x : SerialProgress) : Type 0 where
  pub block : block_of c.owner x.state ≡ c.block
  pub stores : HasStores c.owner x.state

-- after so many offsets of an iteration
abbrev pub upto : Setting → ℕ → SerialProgress → SerialProgress
upto c a x = iteration c.lists c.channels c.owner a x

-- the same with one live iteration of this age
abbrev pub solo : ℕ → SerialProgress → SerialProgress
solo a x = record { state = alone_at a x.state; done = x.done }

pub upto-zero : (c : Setting) (x : SerialProgress)
    → upto c 0 x ≡ record x { state = record x.state { temps = fresh_temps (block_of c.owner x.state) ∷ [] } }
unfolding iteration
upto-zero c x = refl

upto-suc : (c : Setting) (a : ℕ) (x : SerialProgress)
    → upto c (suc a) x ≡ clock_made c.lists c.channels c.owner (alone_at a (upto c a x).state) (upto c a x).done
unfolding iteration
upto-suc c a x = refl

-- it stays in its block, and runs on
pub upto_block : (c : Setting) (a : ℕ) (x : SerialProgress) → (upto c a x).state.control.block ≡ x.state.control.block
upto_block c zero x = ap (λ (y : SerialProgress). y.state.control.block) (upto-zero c x)
upto_block c (suc a) x =
    let y = upto c a x in
    let s = alone_at a y.state in
    ap (λ (y : SerialProgress). y.state.control.block) (upto-suc c a x)
    ∙ (ap (λ (k : Control). k.block)
    (commits_keep c.owner s (all_given c.lists y.done (requests c.channels c.owner s))).0
    ∙ upto_block c a x)

pub upto_ended : (c : Setting) (a : ℕ) (x : SerialProgress) → (upto c a x).state.ended ≡ x.state.ended
upto_ended c zero x = ap (λ (y : SerialProgress). y.state.ended) (upto-zero c x)
upto_ended c (suc a) x =
    let y = upto c a x in
    let s = alone_at a y.state in
    ap (λ (y : SerialProgress). y.state.ended) (upto-suc c a x)
    ∙ ((commits_keep c.owner s (all_given c.lists y.done (requests c.channels c.owner s))).2 ∙ upto_ended c a x)

-- its age is the only one
one_live : (b : Block) (n a : ℕ) → 0 < interval b → a < b.len
    → live_count b (record { block = n; clock = a; newest = 0; looping = false }) ≡ 1
one_live b n a some young =
    let k : Control = record { block = n; clock = a; newest = 0; looping = false } in
    let one : 0 < live_count b k = (live_iff b k 0 some).1 (record { has_started = omega arith; is_young = omega arith }) in
    by_test k one (nat_lt 1 (live_count b k)) refl refl
  where
    by_test : (k : Control) → 0 < live_count b k → (t : Bool) → nat_lt 1 (live_count b k) ≡ t → k.newest ≡ 0 → live_count b k ≡ 1
    by_test k one true e start =
        let live = (live_iff b k 1 some).0 (ltb-true 1 (live_count b k) e) in absurd (omega (arith, live.has_started))
    by_test k one false e start = let most = ltb-false 1 (live_count b k) e in omega arith

only_age : (b : Block) (n a : ℕ) → 0 < interval b → a < b.len
    → ages b (record { block = n; clock = a; newest = 0; looping = false }) ≡ a ∷ []
unfolding ages
only_age b n a some young =
    rw (one_live b n a some young) (ap (λ (x : ℕ). x ∷ []) (omega arith))

-- the operations of one offset commit
pub upto_next : (c : Setting) → IsFit c → (x : SerialProgress) → Stands c x → (a : ℕ) → a < c.block.len
    → upto c (suc a) x ≡ iteration_done c (solo a (upto c a x)) (solo a (upto c a x)) (0, a)
upto_next c fit x h a young =
    let y = upto c a x in
    let here : block_of c.owner y.state ≡ c.block = ap (λ (n : ℕ). block_at c.owner n) (upto_block c a x) ∙ h.block in
    upto-suc c a x
    ∙ subst (λ (b : Block). clock_made c.lists c.channels c.owner (alone_at a y.state) y.done
    ≡ fold (iteration_done (setting_of c.lists c.channels c.owner b) (solo a y)) (solo a y)
    (enumerate_from 0 (ages b (solo a y).state.control)))
    here (clock_by_iterations c.lists c.channels c.owner (solo a y) (subst PopsOnce (sym here) fit.pops))
    ∙ ap (λ (as' : List ℕ). fold (iteration_done c (solo a y)) (solo a y) (enumerate_from 0 as'))
    (only_age c.block y.state.control.block a fit.some young)

-- ---- places

pub solo_places : (c : Setting) (n a : ℕ) (x : SerialProgress) → Placed c n x → Placed c n (solo a x)
solo_places c n a x h = record {
  registers = h.registers;
  memories = h.memories;
  words = h.words;
  temps = h.temps;
  each_temps = h.each_temps;
}

first_places : (c : Setting) (x : SerialProgress) → Stands c x
    → Placed c 1 (record x { state = record x.state { temps = fresh_temps (block_of c.owner x.state) ∷ [] } })
first_places c x h = record {
  registers = h.stores.registers;
  memories = h.stores.memories;
  words = h.stores.words;
  temps = refl;
  each_temps = one;
}
  where
    one : (i : ℕ) → i < 1 → length (get_or (fresh_temps (block_of c.owner x.state) ∷ []) i []) ≡ length c.block.temps
    one zero l = length-replicate _ _ ∙ ap (λ (b : Block). length b.temps) h.block
    one (suc i) l = absurd (omega arith)

pub upto_places : (c : Setting) → IsFit c → (x : SerialProgress) → Stands c x → (a : ℕ) → a ≤ c.block.len → Placed c 1 (upto c a x)
upto_places c fit x h zero l = subst (Placed c 1) (sym (upto-zero c x)) (first_places c x h)
upto_places c fit x h (suc a) l =
    subst (Placed c 1) (sym (upto_next c fit x h a (omega arith)))
    (iteration_places c (solo a (upto c a x)) 1 (solo a (upto c a x)) (0, a)
    (solo_places c 1 a (upto c a x) (upto_places c fit x h a (omega arith))))

-- ---- what stays

pub upto_start : (c : Setting) (u : Used) (x : SerialProgress) → held u (upto c 0 x) ≡ held u x
upto_start c u x = ap (held u) (upto-zero c x) ∙ by_thing u
  where
    by_thing : (u : Used) → held u (record x { state = record x.state { temps = fresh_temps (block_of c.owner x.state) ∷ [] } }) ≡ held u x
    by_thing (Register y) = refl
    by_thing (Memory n) = refl
    by_thing (Reading f) = refl
    by_thing (Writing f) = refl

pub solo_holds : (u : Used) (a : ℕ) (x : SerialProgress) → held u (solo a x) ≡ held u x
solo_holds (Register y) a x = refl
solo_holds (Memory n) a x = refl
solo_holds (Reading f) a x = refl
solo_holds (Writing f) a x = refl

-- a thing that no operation writes at some offsets
pub still : (c : Setting) → IsFit c → (u : Used) (x : SerialProgress) → Stands c x → (d a : ℕ) → d + a ≤ c.block.len
    → ((t : Timed) → Among t c.block.ops → a ≤ t.offset → t.offset < d + a → writes u t.op ≡ false)
    → held u (upto c (d + a) x) ≡ held u (upto c a x)
still c fit u x h zero a l none = ap (λ (n : ℕ). held u (upto c n x)) (omega arith)
still c fit u x h (suc d) a l none =
    ap (λ (n : ℕ). held u (upto c n x)) (omega arith)
    ∙ (ap (held u) (upto_next c fit x h (d + a) (omega arith))
    ∙ (thing_left c (solo (d + a) (upto c (d + a) x)) u 0 (d + a) (λ t among e. none t among (omega arith) (omega arith))
    (solo (d + a) (upto c (d + a) x))
    ∙ (solo_holds u (d + a) (upto c (d + a) x)
    ∙ still c fit u x h d a (omega arith) (λ t among low high. none t among low (omega arith)))))
