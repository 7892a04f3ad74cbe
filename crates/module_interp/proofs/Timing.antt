-- How long a module can run.
use Rattle.std.proofs.Common.{◌≡◌, ℕ, zero, suc, ◌+◌, ◌-◌, ◌*◌, ◌<◌, ◌≤◌, ◌⊎◌, inl, inr, Bool, true, false, ◌&&◌, ◌==◌, cond, List, []}
use Rattle.std.proofs.Common.{refl, sym, ap, subst, arith, length, add-zero}
use Rattle.std.proofs.lemmas.Bool.{cond_both, or_parts, leb-true}
use Rattle.std.specs.Prelude.{slice_index, nat_le}
use Rattle.flow_design.specs.declared.limits.TheConstants.{BLOCK_CLOCKS, SHORT_BLOCK_CLOCKS, COUNTED_OPERATIONS, LONG_BLOCK_OPERATIONS}
use Rattle.flow_design.specs.declared.design.Module.{Module}
use Rattle.flow_design.specs.declared.design.Next.TheVariants.{Goto, Branch, Stop}
use Rattle.module_interp.specs.{Block, Next, Plan, Control, ModuleState, Reply, no_block, block_of, interval, IsModuleSound, FitsEngine}
use Rattle.module_interp.specs.{longest_block, move, entered, decided, finished, followed, started, stopped, again_of, is_block_over}
use Rattle.module_interp.specs.{is_over, no_module, module_at, requests_of, IsStateOf, rests, skip, clocks_left, is_some_request, counted}
use Rattle.module_interp.specs.{ticked_to, gone_on, block_bound, clock_bound, clocks_to_go, IsInTime}
use Rattle.lockstep_defs.proofs.{Agrees.not_ended, Agrees.below_limit, States.move_state, Blocks.block_sound, Blocks.short_interval}
use Rattle.lockstep_defs.proofs.Moves.{Fallen, move_falls, same_control}
use Rattle.module_code.proofs.Moving.{moved_is}

-- ---- blocks

pub module_sound : (p : Plan) → FitsEngine p → (i : ℕ) → i < length p.design.modules
    → IsModuleSound (length p.design.channels) (module_at p i)
module_sound p h i inside = h.modules i no_module inside

few_left : (l : Bool) (most interval len clock newest : ℕ) → newest ≤ clock → interval ≤ most → len ≤ most
    → cond l (((interval + newest) - clock) + len + 1) ((len + newest) - clock) < 2 * most + 2
few_left true most interval len clock newest h i n = omega arith
few_left false most interval len clock newest h i n = omega arith

pub left_bound : (p : Plan) → FitsEngine p → (i : ℕ) → i < length p.design.modules → (s : ModuleState) → IsStateOf (module_at p i) s
    → clocks_left (block_of (module_at p i) s) s.control < block_bound p.ops
left_bound p h i inside s state =
    let m = module_at p i in
    let block = block_sound (length p.design.channels) m s.control.block (module_sound p h i inside) state.block in
    let short = short_interval (length p.design.channels) m (block_of m s) block in
    let most : (block_of m s).len ≤ longest_block p.ops = h.pace i no_module inside s.control.block no_block state.block in
    few_left s.control.looping (longest_block p.ops) (interval (block_of m s)) (block_of m s).len s.control.clock s.control.newest
    state.control.has_started (omega arith) most

some_left : (l : Bool) (interval len clock newest : ℕ) → clock < newest + len
    → 0 < cond l (((interval + newest) - clock) + len + 1) ((len + newest) - clock)
some_left true interval len clock newest h = omega arith
some_left false interval len clock newest h = omega arith

left_some : (m : Module) (s : ModuleState) → IsStateOf m s → s.ended ≡ false → 0 < clocks_left (block_of m s) s.control
left_some m s h alive =
    some_left s.control.looping (interval (block_of m s)) (block_of m s).len s.control.clock s.control.newest (h.young alive)

more : (a b : ℕ) → 0 < b → 0 < a + b
more a b h = omega arith

some_to_go : (p : Plan) (m : Module) (s : ModuleState) → IsStateOf m s → s.ended ≡ false → 0 < clocks_to_go p.ops m s
unfolding clocks_to_go
some_to_go p m s h alive = more ((p.ops - s.count) * block_bound p.ops) (clocks_left (block_of m s) s.control) (left_some m s h alive)

-- ---- the clock of a move

followed_clock : (m : Module) (x : Next) (s : ModuleState) → (followed m x s).control.clock ≤ s.control.clock
unfolding entered
followed_clock m (Goto n) s = omega arith
followed_clock m (Branch r n o) s = omega arith
followed_clock m Stop s = omega arith

finished_clock : (m : Module) (b : Block) (s : ModuleState) → (finished m b s).control.clock ≤ s.control.clock
unfolding finished
finished_clock m b s =
    cond_both (is_block_over b s.control) _ s (λ (t : ModuleState). t.control.clock ≤ s.control.clock) (λ e. followed_clock m b.next s)
    (λ e. omega arith)

decided_clock : (b : Block) (s : ModuleState) → (decided b s).control.clock ≡ s.control.clock
unfolding decided
decided_clock b s =
    cond_both (s.control.looping && (s.control.clock - s.control.newest == interval b)) _ s
    (λ (t : ModuleState). t.control.clock ≡ s.control.clock)
    (λ e. cond_both (slice_index s.registers (again_of b.kind) == 0) (stopped s) (started b s)
    (λ (t : ModuleState). t.control.clock ≡ s.control.clock) (λ z. refl) (λ z. refl))
    (λ e. refl)

pub move_clock : (m : Module) (s : ModuleState) (replies : List Reply) → (move m s replies).control.clock ≤ s.control.clock + 1
move_clock m s replies =
    let t = counted m s replies in
    let u = ticked_to m (t.control.clock + 1) t in
    let is : gone_on m u ≡ move m s replies = moved_is m s t u replies refl refl in
    let clock : t.control.clock ≡ s.control.clock = ap (λ (k : Control). k.clock) (same_control m s replies) in
    let bound : (gone_on m u).control.clock ≤ u.control.clock =
    omega (arith, finished_clock m (block_of m u) (decided (block_of m u) u), decided_clock (block_of m u) u) in
    let same : (gone_on m u).control.clock ≡ (move m s replies).control.clock = ap (λ (z : ModuleState). z.control.clock) is in
    omega arith

-- ---- the clocks to go

count_up : (few : Bool) (operations before after left nearer : ℕ) → before < operations → before < after
    → nearer < 2 * cond few BLOCK_CLOCKS SHORT_BLOCK_CLOCKS + 2
    → (operations - after) * (2 * cond few BLOCK_CLOCKS SHORT_BLOCK_CLOCKS + 2) + nearer
    < (operations - before) * (2 * cond few BLOCK_CLOCKS SHORT_BLOCK_CLOCKS + 2) + left
count_up true operations before after left nearer some up bound = omega arith
count_up false operations before after left nearer some up bound = omega arith

comes_nearer : (few : Bool) (operations before after left nearer : ℕ) → before ≤ after → nearer < left
    → (operations - after) * (2 * cond few BLOCK_CLOCKS SHORT_BLOCK_CLOCKS + 2) + nearer
    < (operations - before) * (2 * cond few BLOCK_CLOCKS SHORT_BLOCK_CLOCKS + 2) + left
comes_nearer true operations before after left nearer up near = omega arith
comes_nearer false operations before after left nearer up near = omega arith

pub falls : (p : Plan) (m : Module) (s t : ModuleState) → s.count < p.ops → clocks_left (block_of m t) t.control < block_bound p.ops
    → Fallen m s t
    → (t.ended ≡ true) ⊎ (clocks_to_go p.ops m t < clocks_to_go p.ops m s)
unfolding clocks_to_go
falls p m s t some bound (inl over) = inl over
falls p m s t some bound (inr (inl up)) =
    inr (count_up (nat_le p.ops LONG_BLOCK_OPERATIONS) p.ops s.count t.count (clocks_left (block_of m s) s.control)
    (clocks_left (block_of m t) t.control) some (let a = up.0 in omega arith) bound)
falls p m s t some bound (inr (inr near)) =
    inr (comes_nearer (nat_le p.ops LONG_BLOCK_OPERATIONS) p.ops s.count t.count (clocks_left (block_of m s) s.control)
    (clocks_left (block_of m t) t.control) near.0 near.1)

within : (few : Bool) (operations count left : ℕ) → nat_le operations LONG_BLOCK_OPERATIONS ≡ few → operations ≤ COUNTED_OPERATIONS
    → left < 2 * cond few BLOCK_CLOCKS SHORT_BLOCK_CLOCKS + 2
    → 1 + ((operations - count) * (2 * cond few BLOCK_CLOCKS SHORT_BLOCK_CLOCKS + 2) + left) ≤ clock_bound
within true operations count left few most bound = let least = leb-true operations LONG_BLOCK_OPERATIONS few in omega arith
within false operations count left few most bound = omega arith

at_most : (p : Plan) (m : Module) (s : ModuleState) → p.ops ≤ COUNTED_OPERATIONS → clocks_left (block_of m s) s.control < block_bound p.ops
    → 1 + clocks_to_go p.ops m s ≤ clock_bound
unfolding clocks_to_go
at_most p m s most bound =
    within (nat_le p.ops LONG_BLOCK_OPERATIONS) p.ops s.count (clocks_left (block_of m s) s.control) refl most bound

-- one local clock more
pub moved_in_time : (p : Plan) → FitsEngine p → (i : ℕ) → i < length p.design.modules
    → (s : ModuleState) (replies : List Reply) (elapsed : ℕ)
    → IsStateOf (module_at p i) s → s.ended ≡ false → s.count < p.ops → IsInTime p (module_at p i) s elapsed
    → IsInTime p (module_at p i) (move (module_at p i) s replies) (elapsed + 1)
moved_in_time p h i inside s replies elapsed state alive few time =
    let m = module_at p i in
    let t = move m s replies in
    let sound = module_sound p h i inside in
    let later = move_state (length p.design.channels) m sound s replies state alive in
    let bound = left_bound p h i inside t later in
    let some = some_to_go p m s state alive in
    let left = time.left alive in
    let clock = time.clock alive in
    let next = move_clock m s replies in
    elim (falls p m s t few bound (move_falls m s replies state.control.goes)) [
      | inl over ↦ record { since = omega arith; left = λ e. both over e; clock = λ e. both over e }
      | inr less ↦ record { since = omega arith; left = λ e. omega arith; clock = λ e. omega arith }
    ]
  where
    both : {P : Type 0} {b : Bool} → b ≡ true → b ≡ false → P
    both over e = cc

-- a step begins a new count
pub step_in_time : (p : Plan) → FitsEngine p → (i : ℕ) → i < length p.design.modules
    → (s : ModuleState) (replies : List Reply) (elapsed : ℕ)
    → IsStateOf (module_at p i) s → s.ended ≡ false → s.count < p.ops → IsInTime p (module_at p i) s elapsed
    → IsInTime p (module_at p i) (move (module_at p i) s replies) 1
step_in_time p h i inside s replies elapsed state alive few time =
    let m = module_at p i in
    let t = move m s replies in
    let sound = module_sound p h i inside in
    let later = move_state (length p.design.channels) m sound s replies state alive in
    let bound = left_bound p h i inside t later in
    let most = at_most p m t h.operations bound in
    let moved = moved_in_time p h i inside s replies elapsed state alive few time in
    record { since = omega arith; left = λ e. most; clock = moved.clock }

-- the first local clock
pub opened_in_time : (p : Plan) → FitsEngine p → (i : ℕ) → i < length p.design.modules → (s : ModuleState) → IsStateOf (module_at p i) s
    → s.control.clock ≡ 0
    → IsInTime p (module_at p i) s 0
opened_in_time p h i inside s state first =
    let m = module_at p i in
    let most = at_most p m s h.operations (left_bound p h i inside s state) in
    record { since = omega arith; left = λ e. omega arith; clock = λ e. omega arith }

-- ---- quiet clocks

pub lives : (p : Plan) (i : ℕ) (s : ModuleState) → rests p i s ≡ false → (s.ended ≡ false) × (s.count < p.ops)
lives p i s h =
    let alive = (or_parts (is_over p.ops s) (is_some_request (requests_of p (i, s))) h).0 in
    (not_ended p.ops s alive, below_limit p.ops s alive)

pub record GoesOn (p : Plan) (i : ℕ) (s : ModuleState) (elapsed : ℕ) : Type 0 where
  pub state : IsStateOf (module_at p i) s
  pub time : IsInTime p (module_at p i) s elapsed

pub skip_goes_on : (p : Plan) → FitsEngine p → (i : ℕ) → i < length p.design.modules → (s : ModuleState) (elapsed : ℕ)
    → GoesOn p i s elapsed
    → (n : ℕ) → ((j : ℕ) → j < n → rests p i (skip p i j s) ≡ false) → GoesOn p i (skip p i n s) (elapsed + n)
skip_goes_on p h i inside s elapsed g zero goes = subst (GoesOn p i s) (sym (add-zero elapsed)) g
skip_goes_on p h i inside s elapsed g (suc n) goes =
    let m = module_at p i in
    let t = skip p i n s in
    let before = skip_goes_on p h i inside s elapsed g n (λ j l. goes j (omega arith)) in
    let alive = lives p i t (goes n (omega arith)) in
    let count : elapsed + n + 1 ≡ elapsed + suc n = omega arith in
    record {
      state = move_state (length p.design.channels) m (module_sound p h i inside) t [] before.state alive.0;
      time = subst (IsInTime p m (move m t [])) count
          (moved_in_time p h i inside t [] (elapsed + n) before.state alive.0 alive.1 before.time);
    }
