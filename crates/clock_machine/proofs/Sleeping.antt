-- A module in its memo, from one clock to the next.
use Rattle.std.proofs.Common.{◌≡◌, ℕ, zero, suc, ◌+◌, ◌-◌, ◌<◌, ◌≤◌, List, [], ◌∷◌, Bool, true, false, ◌&&◌, not, refl, sym, ◌∙◌, ap, subst}
use Rattle.std.proofs.Common.{arith, map, inl, inr, add-one, nat_lt, ◌||◌, ◌^◌, length}
use Rattle.std.proofs.lemmas.Bool.{or_parts, and_parts, ltb-true, cases_lt}
use Rattle.std.specs.List.{list_any}
use Rattle.clock_machine.specs.{Block, Plan, Control, Element, ModuleState, Request, FitsEngine, block_of, interval, is_over, move, stalls}
use Rattle.clock_machine.specs.{reply, IsStateOf, no_module, module_at, requests_of, moves, state, state_at, rests, skip, is_some_request}
use Rattle.clock_machine.specs.{KeepsLimits, StandsIn, IsNextDue, ticked_to, gone_on, IsStateSound, BlockCode, Memo, does_move, asleep}
use Rattle.clock_machine.specs.{IsKnown, IsRemembered, MovesQuietly, FallsAsleep}
use Rattle.lockstep_defs.proofs.{Agrees.state_at-suc, Agrees.not_ended, Resting.skip_front, States.move_state, States.history_state}
use Rattle.module_interp.proofs.Idle.{IsIdle, skip_on, never_rests}
use Rattle.clock_machine.proofs.Moving.{moves_by_stalls}

-- ---- what a module does in a clock

pub moved_state : (p : Plan) (clock i : ℕ) → i < length p.design.modules → does_move p clock i ≡ true
    → state_at p (clock + 1) i
    ≡ move (module_at p i) (state_at p clock i) (map (reply p clock (state p clock).contents) (requests_of p (i, state_at p clock i)))
moved_state p clock i h e = rw add-one (state_at-suc p clock i h ∙ rw e refl)

pub still_state : (p : Plan) (clock i : ℕ) → i < length p.design.modules → does_move p clock i ≡ false
    → state_at p (clock + 1) i ≡ state_at p clock i
still_state p clock i h e = rw add-one (state_at-suc p clock i h ∙ rw e refl)

no_requests : (rs : List Request) → is_some_request rs ≡ false → rs ≡ []
no_requests [] h = refl
no_requests (r ∷ rs) h = cc

-- a module that does not rest moves, and asks for nothing
pub asks_nothing : (p : Plan) (clock i : ℕ) (contents : List (List Element)) (s : ModuleState) → rests p i s ≡ false
    → moves p clock contents (i, s) ≡ true
unfolding moves
asks_nothing p clock i contents s e =
    let parts = or_parts (is_over p.ops s) (is_some_request (requests_of p (i, s))) e in
    rw (parts.0, no_requests (requests_of p (i, s)) parts.1) refl

pub quiet_move : (p : Plan) (clock i : ℕ) → i < length p.design.modules → rests p i (state_at p clock i) ≡ false → MovesQuietly p clock i
quiet_move p clock i h e =
    let s = state_at p clock i in
    let parts = or_parts (is_over p.ops s) (is_some_request (requests_of p (i, s))) e in
    let none = no_requests (requests_of p (i, s)) parts.1 in
    let moving : does_move p clock i ≡ true = asks_nothing p clock i (state p clock).contents s e in record {
      moving = moving;
      state = moved_state p clock i h moving
          ∙ ap (λ (rs : List Request). move (module_at p i) s (map (reply p clock (state p clock).contents) rs)) none;
      step = rw (moving, none) refl;
    }

-- ---- asleep

-- a module that is awake is in its state
pub awake : (p : Plan) {codes : List (List BlockCode)} (clock i : ℕ) (s : ModuleState) (memo : Memo) → IsRemembered p codes clock i s memo
    → memo.wakes ≤ clock
    → s ≡ state_at p clock i
awake p clock i s memo h l =
    let none : asleep clock memo ≡ 0 = omega arith in
    h.standing ∙ ap (λ (n : ℕ). skip p i n (state_at p clock i)) none

-- a module that sleeps moves, and does nothing
pub sleeping : (p : Plan) {codes : List (List BlockCode)} (clock i : ℕ) (s : ModuleState) (memo : Memo) → i < length p.design.modules
    → IsRemembered p codes clock i s memo
    → clock < memo.wakes → MovesQuietly p clock i
sleeping p clock i s memo h is l = quiet_move p clock i h (is.quiet 0 (omega arith))

-- and sleeps on
pub sleeps_on : (p : Plan) {codes : List (List BlockCode)} (clock i : ℕ) (s : ModuleState) (memo : Memo) → i < length p.design.modules
    → IsRemembered p codes clock i s memo
    → clock < memo.wakes → IsRemembered p codes (clock + 1) i s memo
sleeps_on p clock i s memo h is l =
    let n = asleep (clock + 1) memo in
    let one : asleep clock memo ≡ suc n = omega arith in
    let next = (sleeping p clock i s memo h is l).state in
    record {
      standing = is.standing
          ∙ (ap (λ (k : ℕ). skip p i k (state_at p clock i)) one
          ∙ (skip_front p i n (state_at p clock i) ∙ ap (skip p i n) (sym next)));
      quiet = λ j less. ap (λ (z : ModuleState). rests p i (skip p i j z)) next
          ∙ (ap (rests p i) (sym (skip_front p i j (state_at p clock i))) ∙ is.quiet (suc j) (omega arith));
      young = let y = is.young in omega arith;
      known = is.known;
    }

-- ---- awake

-- a module that stays
pub stays : (p : Plan) {codes : List (List BlockCode)} (clock i : ℕ) (s : ModuleState) (memo : Memo) → i < length p.design.modules
    → IsRemembered p codes clock i s memo
    → memo.wakes ≤ clock → does_move p clock i ≡ false → IsRemembered p codes (clock + 1) i s memo
stays p clock i s memo h is l still =
    let none : asleep (clock + 1) memo ≡ 0 = omega arith in record {
      standing = awake p clock i s memo is l
          ∙ (sym (still_state p clock i h still) ∙ ap (λ (n : ℕ). skip p i n (state_at p (clock + 1) i)) (sym none));
      quiet = λ j less. absurd (omega arith);
      young = let y = is.young in omega arith;
      known = is.known;
    }

-- where nothing is known
nothing_known : (p : Plan) {codes : List (List BlockCode)} (m : ℕ × ModuleState) (memo : Memo) → memo.known ≡ false → IsKnown p codes m memo
nothing_known p m memo e = record { noted = λ k d. cc; requests = λ k. cc }

-- a module that moved
pub has_moved : (p : Plan) {codes : List (List BlockCode)} (clock i : ℕ) (s : ModuleState) (memo : Memo) → memo.wakes ≤ clock
    → memo.known ≡ false
    → s ≡ state_at p (clock + 1) i → s.control.clock ≤ clock + 1 → IsRemembered p codes (clock + 1) i s memo
has_moved p clock i s memo l unknown is young =
    let none : asleep (clock + 1) memo ≡ 0 = omega arith in record {
      standing = is ∙ ap (λ (n : ℕ). skip p i n (state_at p (clock + 1) i)) (sym none);
      quiet = λ j less. absurd (omega arith);
      young = omega arith;
      known = nothing_known p (i, s) memo unknown;
    }

-- what is known of a module may change
pub remembered_anew : (p : Plan) {codes : List (List BlockCode)} (clock i : ℕ) (s : ModuleState) (memo next : Memo)
    → IsRemembered p codes clock i s memo → next.wakes ≡ memo.wakes
    → IsKnown p codes (i, s) next → IsRemembered p codes clock i s next
remembered_anew p clock i s memo next is same known =
    let left : asleep clock next ≡ asleep clock memo = ap (λ (n : ℕ). n - clock) same in record {
      standing = is.standing ∙ ap (λ (n : ℕ). skip p i n (state_at p clock i)) (sym left);
      quiet = λ j less. is.quiet j (omega arith);
      young = let y = is.young in omega arith;
      known = known;
    }

-- ---- what is asked

-- a module that is awake, and runs, moves unless one of its requests stalls
pub moves_by_requests : (p : Plan) (clock i : ℕ) (contents : List (List Element)) (asked : List Request) (goes : Bool)
    → contents ≡ (state p clock).contents → asked ≡ requests_of p (i, state_at p clock i)
    → is_over p.ops (state_at p clock i) ≡ false → goes ≡ not (list_any (stalls p clock contents) asked) → goes ≡ does_move p clock i
moves_by_requests p clock i contents asked goes holding is running e =
    e ∙ (ap (λ (held : List (List Element)). not (list_any (stalls p clock held) asked)) holding
    ∙ (ap (λ (rs : List Request). not (list_any (stalls p clock (state p clock).contents) rs)) is
    ∙ sym (moves_by_stalls p clock (state p clock).contents (i, state_at p clock i) running)))

-- what a module that is awake asks, and whether it is over
pub asked_in : (p : Plan) {codes : List (List BlockCode)} (clock i : ℕ) (s : ModuleState) (memo : Memo)
    → IsRemembered p codes clock i s memo → memo.wakes ≤ clock
    → memo.known ≡ true → memo.requests ≡ requests_of p (i, state_at p clock i)
asked_in p clock i s memo is l known =
    is.known.requests known ∙ ap (λ (z : ModuleState). requests_of p (i, z)) (awake p clock i s memo is l)

pub runs_in : (p : Plan) {codes : List (List BlockCode)} (clock i : ℕ) (s : ModuleState) (memo : Memo) (b : Bool)
    → IsRemembered p codes clock i s memo → memo.wakes ≤ clock
    → is_over p.ops s ≡ b → is_over p.ops (state_at p clock i) ≡ b
runs_in p clock i s memo b is l e = ap (is_over p.ops) (sym (awake p clock i s memo is l)) ∙ e

-- ---- falling asleep

-- a module that goes on to the next clock with work
pub falls_asleep : (p : Plan) {codes : List (List BlockCode)} (clock i n : ℕ) (s t : ModuleState) (memo : Memo)
    → i < length p.design.modules
    → s ≡ state_at p clock i → is_over p.ops s ≡ false → IsIdle (module_at p i) s (suc n)
    → t ≡ gone_on (module_at p i) (ticked_to (module_at p i) (s.control.clock + suc n) s) → memo.wakes ≡ clock + suc n
    → memo.known ≡ false → t.control.clock ≤ clock + suc n → FallsAsleep p codes clock i t memo
falls_asleep p clock i n s t memo h is running idle at wakes unknown young =
    let goes = never_rests p i s n idle running in
    let quiet = quiet_move p clock i h (ap (rests p i) (sym is) ∙ goes 0 (omega arith)) in
    let left : asleep (clock + 1) memo ≡ n = omega arith in
    let next : state_at p (clock + 1) i ≡ move (module_at p i) s [] =
    quiet.state ∙ ap (λ (z : ModuleState). move (module_at p i) z []) (sym is) in record {
      quiet = quiet;
      remembered = record {
        standing = at ∙ (sym (skip_on p i s n idle) ∙ (skip_front p i n s ∙ (ap (skip p i n) (sym next)
            ∙ ap (λ (k : ℕ). skip p i k (state_at p (clock + 1) i)) (sym left))));
        quiet = λ j less. ap (λ (z : ModuleState). rests p i (skip p i j z)) next
            ∙ (ap (rests p i) (sym (skip_front p i j s)) ∙ goes (suc j) (omega arith));
        young = omega arith;
        known = nothing_known p (i, t) memo unknown;
      };
    }

-- ---- states that come up

-- a module that sleeps is in a state of its own
skip_state : (p : Plan) → FitsEngine p → (i : ℕ) → i < length p.design.modules → (s : ModuleState) → IsStateOf (module_at p i) s → (n : ℕ)
    → ((j : ℕ) → j < n → rests p i (skip p i j s) ≡ false) → IsStateOf (module_at p i) (skip p i n s)
skip_state p f i h s is zero goes = is
skip_state p f i h s is (suc n) goes =
    let t = skip p i n s in
    let alive = (or_parts (is_over p.ops t) (is_some_request (requests_of p (i, t))) (goes n (omega arith))).0 in
    move_state (length p.design.channels) (module_at p i) (f.modules i no_module h) t []
    (skip_state p f i h s is n (λ j l. goes j (omega arith))) (not_ended p.ops t alive)

pub remembered_state : (p : Plan) {codes : List (List BlockCode)} → FitsEngine p → (clock i : ℕ) (s : ModuleState) (memo : Memo)
    → i < length p.design.modules
    → IsRemembered p codes clock i s memo → IsStateOf (module_at p i) s
remembered_state p f clock i s memo h is =
    subst (IsStateOf (module_at p i)) (sym is.standing)
    (skip_state p f i h (state_at p clock i) (history_state p f clock i h) (asleep clock memo) is.quiet)

pub remembered_sound : (p : Plan) {codes : List (List BlockCode)} → FitsEngine p → (clock i : ℕ) (s : ModuleState) (memo : Memo)
    → i < length p.design.modules
    → IsRemembered p codes clock i s memo → is_over p.ops s ≡ false → IsStateSound (module_at p i) s
remembered_sound p f clock i s memo h is running =
    record { state = remembered_state p f clock i s memo h is; running = not_ended p.ops s running }

-- where a module stands in its block
pub stands_in : (p : Plan) (i : ℕ) (s : ModuleState) → IsStateSound (module_at p i) s → s.control.clock < 10 ^ 18
    → StandsIn (block_of (module_at p i) s) s.control
stands_in p i s sound small = record {
  small = small;
  has_started = sound.state.control.has_started;
  is_young = λ e. sound.state.young sound.running;
  is_loop = sound.state.control.is_loop_going;
  undecided = λ e. near s.control.looping (interval (block_of (module_at p i) s)) s.control.clock s.control.newest e
      sound.state.control.goes;
}
  where
    near : (l : Bool) (ii clock newest : ℕ) → l ≡ true → (not l || (nat_lt 0 ii && nat_lt clock (newest + ii))) ≡ true → clock ≤ newest + ii
    near true ii clock newest e g =
        let less = ltb-true clock (newest + ii) (and_parts (nat_lt 0 ii) (nat_lt clock (newest + ii)) g).1 in omega arith
    near false ii clock newest e g = cc

pub remembered_stands : (p : Plan) {codes : List (List BlockCode)} → FitsEngine p → (clock i : ℕ) (s : ModuleState) (memo : Memo)
    → i < length p.design.modules
    → IsRemembered p codes clock i s memo → is_over p.ops s ≡ false → memo.wakes ≤ clock → clock ≤ p.cycles
    → StandsIn (block_of (module_at p i) s) s.control
remembered_stands p f clock i s memo h is running l early =
    let young = is.young in
    let cycles = f.cycles in
    stands_in p i s (remembered_sound p f clock i s memo h is running) (omega arith)

-- the next clock with work is not after the block's end
next_near : (b : Block) (k : Control) (next : ℕ) → KeepsLimits b → StandsIn b k → IsNextDue b k next → next ≤ k.newest + b.len
next_near b k next limits stands due = by_test k.looping refl
  where
    by_test : (l : Bool) → k.looping ≡ l → next ≤ k.newest + b.len
    by_test true e = elim (cases_lt (k.newest + interval b) next) [
      | inl less ↦ absurd (due.idle_before (k.newest + interval b) (stands.undecided e) less
          (inr (inl (record { goes_on = e; is_old = refl }))))
      | inr most ↦ let short = limits.short in omega arith
    ]
    by_test false e = elim (cases_lt (k.newest + b.len) next) [
      | inl less ↦ let young = stands.is_young e in absurd (due.idle_before (k.newest + b.len) (omega arith) less
          (inr (inr (record { is_last = e; is_old = omega arith }))))
      | inr most ↦ most
    ]

pub next_small : (p : Plan) {codes : List (List BlockCode)} → FitsEngine p → (clock i : ℕ) (s : ModuleState) (memo : Memo) (next : ℕ)
    → i < length p.design.modules
    → IsRemembered p codes clock i s memo → is_over p.ops s ≡ false → memo.wakes ≤ clock → clock ≤ p.cycles
    → KeepsLimits (block_of (module_at p i) s) → IsNextDue (block_of (module_at p i) s) s.control next → clock + next ≤ 10 ^ 16
next_small p f clock i s memo next h is running l early limits due =
    let stands = remembered_stands p f clock i s memo h is running l early in
    let near = next_near (block_of (module_at p i) s) s.control next limits stands due in
    let started = stands.has_started in
    let most = limits.most in
    let young = is.young in
    let cycles = f.cycles in
    omega arith

-- a module without work up to a later clock is idle till then
pub idle_till : (p : Plan) (i n : ℕ) (s : ModuleState) (next : ℕ) → KeepsLimits (block_of (module_at p i) s)
    → IsStateSound (module_at p i) s
    → IsNextDue (block_of (module_at p i) s) s.control next → next ≡ s.control.clock + suc n → IsIdle (module_at p i) s (suc n)
idle_till p i n s next limits sound due far = record {
  some = limits.some;
  begun = sound.state.control.has_started;
  temps = sound.state.places.temps;
  none = λ c from below. due.idle_before c from (omega arith);
}
