-- One move: commits keep the control, the count and the end mark; a move raises the count, or lowers the local clocks that are left.
use Rattle.std.proofs.Common.{◌≡◌, ℕ, zero, suc, ◌+◌, ◌-◌, ◌≤◌, ◌<◌, List, [], ◌∷◌, length, get_or, Bool, true, false, ◌||◌, ◌&&◌, not}
use Rattle.std.proofs.Common.{cond, refl, sym, ◌∙◌, ap, subst, arith, ◌⊎◌, inl, inr, ◌==◌}
use Rattle.std.proofs.lemmas.Bool.{leb-false, ltb-true, lt-ltb, eqb-true, eqb-false, and_from, cond_both, and_parts}
use Rattle.std.specs.{Prelude.nat_le, Prelude.nat_lt, Prelude.slice_index, List.fold}
use Rattle.lockstep_defs.specs.{Block, Next, Control, Effect, ModuleState, Reply, no_block, block_at, block_of, is_loop, interval, due}
use Rattle.lockstep_defs.specs.{effects, stored, committed, entered, ticked, decided, finished, followed, again_of, is_block_over, move}
use Rattle.lockstep_defs.specs.{opened, span, clocks_left, keeps_looping}
use Rattle.flow_design.specs.declared.design.Module.{Module}
use Rattle.flow_design.specs.declared.state.Effect.TheVariants.{Variable, Word}
use Rattle.flow_design.specs.declared.design.Next.TheVariants.{Goto, Branch, Stop}

-- ---- commits

-- the control, the count and the end mark stay
abbrev pub Keeps : ModuleState → ModuleState → Type 0
Keeps s t = (t.control ≡ s.control) × (t.count ≡ s.count) × (t.ended ≡ s.ended)

stored_keeps : (m : Module) (b : Block) (s : ModuleState) (e : Effect) → Keeps s (stored m b s e)
stored_keeps m b s (Variable i x v) =
    cond_both (nat_lt x (length m.registers)) _ _ (Keeps s) (λ e. (refl, refl, refl)) (λ e. (refl, refl, refl))
stored_keeps m b s (Word n a v) = (refl, refl, refl)

pub all_keep : (m : Module) (b : Block) (s : ModuleState) (es : List Effect) → Keeps s (fold (stored m b) s es)
all_keep m b s [] = (refl, refl, refl)
all_keep m b s (e ∷ es) =
    let here = stored_keeps m b s e in
    let later = all_keep m b (stored m b s e) es in
    (later.0 ∙ here.0, later.1 ∙ here.1, later.2 ∙ here.2)

pub commits_keep : (m : Module) (s : ModuleState) (replies : List Reply) → Keeps s (committed m s replies)
commits_keep m s replies = all_keep m (block_of m s) s (effects (block_of m s) s (due m s) replies)

-- ---- the local clocks that are left

abbrev pub left : Module → ModuleState → ℕ
left m s = clocks_left (block_of m s) s.control

-- the module ends, or the count goes up, or the next decision or the block's end comes nearer
abbrev Falls : Module → ModuleState → ModuleState → Type 0
Falls m s t = (t.ended ≡ true) ⊎ (((suc s.count ≤ t.count) × (left m t ≤ left m s + span m.blocks))
    ⊎ ((t.count ≡ s.count) × (left m t < left m s)))

first_left : (bs : List Block) (n : ℕ)
    → cond (is_loop (get_or bs n no_block).kind) (interval (get_or bs n no_block) + (get_or bs n no_block).len + 1)
    (get_or bs n no_block).len ≤ span bs
first_left [] n = omega arith
first_left (b ∷ bs) zero = cond_both (is_loop b.kind) _ _ (λ (x : ℕ). x ≤ span (b ∷ bs)) (λ e. omega arith) (λ e. omega arith)
first_left (b ∷ bs) (suc n) = let rest = first_left bs n in omega arith

interval_within : (bs : List Block) (n : ℕ) → interval (get_or bs n no_block) ≤ span bs
interval_within [] n = omega arith
interval_within (b ∷ bs) zero = omega arith
interval_within (b ∷ bs) (suc n) = let rest = interval_within bs n in omega arith

same_first : (l : Bool) (i n : ℕ) → cond l (((i + 0) - 0) + n + 1) ((n + 0) - 0) ≡ cond l (i + n + 1) n
same_first true i n = omega arith
same_first false i n = omega arith

entered_left : (m : Module) (n : ℕ) (s : ModuleState) → left m (entered m n s) ≤ span m.blocks
unfolding entered
entered_left m n s = let b = block_at m n in rw (same_first (is_loop b.kind) (interval b) b.len) (first_left m.blocks n)

entered_count : (m : Module) (n : ℕ) (s : ModuleState) → (entered m n s).count ≡ s.count + 1
unfolding entered
entered_count m n s = refl

entered_falls : (m : Module) (n : ℕ) (t v : ModuleState) → t.count ≤ v.count → Falls m t (entered m n v)
entered_falls m n t v h = let l = entered_left m n v in let c = entered_count m n v in inr (inl (omega arith, omega arith))

followed_falls : (m : Module) (x : Next) (t v : ModuleState) → t.count ≤ v.count → Falls m t (followed m x v)
followed_falls m (Goto n) t v h = entered_falls m n t v h
followed_falls m (Branch r n o) t v h = entered_falls m _ t v h
followed_falls m Stop t v h = inl refl

-- before the block may end
abbrev Between : Module → Block → ModuleState → ModuleState → Type 0
Between m b t v = (t.count ≤ v.count) × (is_block_over b v.control ≡ false → Falls m t v)

finished_falls : (m : Module) (b : Block) (t v : ModuleState) → Between m b t v → Falls m t (finished m b v)
unfolding finished
finished_falls m b t v h = cond_both (is_block_over b v.control) _ _ (Falls m t) (λ e. followed_falls m b.next t v h.0) h.1

tick_less : (l : Bool) (i n c s : ℕ) → (not l || (nat_lt 0 i && nat_lt c (s + i))) ≡ true → (l && (c + 1 - s == i)) ≡ false
    → (not l && nat_le n (c + 1 - s)) ≡ false
    → cond l (((i + s) - (c + 1)) + n + 1) ((n + s) - (c + 1)) < cond l (((i + s) - c) + n + 1) ((n + s) - c)
tick_less true i n c s f d e = let young : c < s + i = ltb-true c (s + i) (and_parts (nat_lt 0 i) (nat_lt c (s + i)) f).1 in omega arith
tick_less false i n c s f d e = let going = leb-false _ _ e in omega arith

no_less : (l : Bool) (i n c s : ℕ) → (not l || (nat_lt 0 i && nat_lt c (s + i))) ≡ true → (l && (c + 1 - s == i)) ≡ true
    → ((n + s) - (c + 1)) < cond l (((i + s) - c) + n + 1) ((n + s) - c)
no_less true i n c s f d =
    let old = eqb-true _ _ d in
    let young : c < s + i = ltb-true c (s + i) (and_parts (nat_lt 0 i) (nat_lt c (s + i)) f).1 in
    let some : 0 < i = ltb-true 0 i (and_parts (nat_lt 0 i) (nat_lt c (s + i)) f).0 in
    omega arith
no_less false i n c s f d = cc

yes_less : (l : Bool) (i n c s w : ℕ) → i ≤ w → (l && (c + 1 - s == i)) ≡ true
    → cond l (((i + (c + 1)) - (c + 1)) + n + 1) ((n + (c + 1)) - (c + 1)) ≤ cond l (((i + s) - c) + n + 1) ((n + s) - c) + w
yes_less true i n c s w h d = omega arith
yes_less false i n c s w h d = cc

decided_between : (m : Module) (t : ModuleState) → keeps_looping t.control (interval (block_of m t)) ≡ true
    → Between m (block_of m t) t (decided (block_of m t) (ticked (block_of m t) t))
unfolding decided ticked
decided_between m t f =
    let b = block_of m t in
    let k = t.control in
    let u = ticked b t in
    cond_both (k.looping && (k.clock + 1 - k.newest == interval b)) _ u (Between m b t)
    (λ d. cond_both (slice_index u.registers (again_of b.kind) == 0) _ _ (Between m b t)
    (λ z. (omega arith, λ e. inr (inr (refl, no_less k.looping (interval b) b.len k.clock k.newest f d))))
    (λ z. (
      omega arith,
      λ e. inr (inl
          (omega arith, yes_less k.looping (interval b) b.len k.clock k.newest (span m.blocks) (interval_within m.blocks k.block) d)),
    )))
    (λ d. (omega arith, λ e. inr (inr (refl, tick_less k.looping (interval b) b.len k.clock k.newest f d e))))

-- the rest of a move, after the commits
abbrev pub rest_of_move : Module → Block → ModuleState → ModuleState
rest_of_move m b t = finished m b (decided b (ticked b t))

rest_falls : (m : Module) (t : ModuleState) → keeps_looping t.control (interval (block_of m t)) ≡ true
    → Falls m t (rest_of_move m (block_of m t) t)
rest_falls m t f = finished_falls m (block_of m t) t _ (decided_between m t f)

-- ---- a whole move

abbrev pub Fallen : Module → ModuleState → ModuleState → Type 0
Fallen m s t = (t.ended ≡ true)
    ⊎ (((suc s.count ≤ t.count) × (left m t ≤ left m s + span m.blocks)) ⊎ ((s.count ≤ t.count) × (left m t < left m s)))

weaken : (m : Module) (s t u : ModuleState) → left m t ≡ left m s → s.count ≤ t.count → Falls m t u → Fallen m s u
weaken m s t u e h (inl over) = inl over
weaken m s t u e h (inr (inl up)) = let a = up.0 in let b = up.1 in inr (inl (omega arith, omega arith))
weaken m s t u e h (inr (inr near)) = let a = near.0 in let b = near.1 in inr (inr (omega arith, omega arith))

-- the state after the commits, with the operations counted
abbrev pub counted : Module → ModuleState → List Reply → ModuleState
counted m s replies = record (committed m s replies) { count = s.count + length (due m s) }

pub same_control : (m : Module) (s : ModuleState) (replies : List Reply) → (counted m s replies).control ≡ s.control
same_control m s replies = (commits_keep m s replies).0

pub same_block : (m : Module) (s : ModuleState) (replies : List Reply) → block_of m (counted m s replies) ≡ block_of m s
same_block m s replies = ap (λ (k : Control). block_at m k.block) (same_control m s replies)

-- a move ends the module, raises the count, or lowers the local clocks that are left
pub move_falls : (m : Module) (s : ModuleState) (replies : List Reply) → keeps_looping s.control (interval (block_of m s)) ≡ true
    → Fallen m s (move m s replies)
unfolding move
move_falls m s replies f =
    let t = counted m s replies in
    let same_left : left m t ≡ left m s = ap (λ (k : Control). clocks_left (block_at m k.block) k) (same_control m s replies) in
    let still = subst (λ (k : Control). keeps_looping k (interval (block_at m k.block)) ≡ true) (sym (same_control m s replies)) f in
    weaken m s t (move m s replies) same_left (omega arith)
    (subst (λ (b : Block). Falls m t (rest_of_move m b t)) (same_block m s replies) (rest_falls m t still))

-- ---- a loop that goes on has a newest iteration of fewer than II local clocks

-- each loop has an interval
abbrev pub HasIntervals : Module → Type 0
HasIntervals m = (b : ℕ) → is_loop (block_at m b).kind ≡ true → 0 < interval (block_at m b)

abbrev pub Goes : Module → ModuleState → Type 0
Goes m s = keeps_looping s.control (interval (block_of m s)) ≡ true

pub first_goes : (l : Bool) (ii : ℕ) → (l ≡ true → 0 < ii) → (not l || (nat_lt 0 ii && nat_lt 0 (0 + ii))) ≡ true
first_goes true ii h = let pos = h refl in and_from _ _ (lt-ltb 0 ii pos) (lt-ltb 0 (0 + ii) (omega arith))
first_goes false ii h = refl

entered_goes : (m : Module) → HasIntervals m → (n : ℕ) (s : ModuleState) → Goes m (entered m n s)
unfolding entered
entered_goes m h n s = first_goes (is_loop (block_at m n).kind) (interval (block_at m n)) (h n)

followed_goes : (m : Module) → HasIntervals m → (x : Next) (v : ModuleState) → Goes m v → Goes m (followed m x v)
followed_goes m h (Goto n) v g = entered_goes m h n v
followed_goes m h (Branch r n o) v g = entered_goes m h _ v
followed_goes m h Stop v g = g

pub tick_goes : (l : Bool) (i c s : ℕ) → (not l || (nat_lt 0 i && nat_lt c (s + i))) ≡ true → (l && (c + 1 - s == i)) ≡ false
    → (not l || (nat_lt 0 i && nat_lt (c + 1) (s + i))) ≡ true
tick_goes true i c s f d =
    let parts = and_parts _ _ f in
    let young = ltb-true c (s + i) parts.1 in
    let ne : (c + 1 - s ≡ i) → ⊥ = eqb-false _ _ d in
    and_from _ _ parts.0 (lt-ltb (c + 1) (s + i) (omega arith))
tick_goes false i c s f d = refl

yes_goes : (l : Bool) (i c s : ℕ) → (not l || (nat_lt 0 i && nat_lt c (s + i))) ≡ true
    → (not l || (nat_lt 0 i && nat_lt (c + 1) ((c + 1) + i))) ≡ true
yes_goes true i c s f =
    let parts = and_parts _ _ f in
    let some = ltb-true 0 i parts.0 in
    and_from _ _ parts.0 (lt-ltb (c + 1) ((c + 1) + i) (omega arith))
yes_goes false i c s f = refl

decided_goes : (m : Module) (t : ModuleState) → Goes m t → Goes m (decided (block_of m t) (ticked (block_of m t) t))
unfolding decided ticked
decided_goes m t f =
    let b = block_of m t in
    let k = t.control in
    let u = ticked b t in
    cond_both (k.looping && (k.clock + 1 - k.newest == interval b)) _ u (Goes m)
    (λ d. cond_both (slice_index u.registers (again_of b.kind) == 0) _ _ (Goes m) (λ z. refl)
    (λ z. yes_goes k.looping (interval b) k.clock k.newest f))
    (λ d. tick_goes k.looping (interval b) k.clock k.newest f d)

finished_goes : (m : Module) → HasIntervals m → (b : Block) (v : ModuleState) → Goes m v → Goes m (finished m b v)
unfolding finished
finished_goes m h b v g = cond_both (is_block_over b v.control) _ v (Goes m) (λ e. followed_goes m h b.next v g) (λ e. g)

pub move_goes : (m : Module) → HasIntervals m → (s : ModuleState) (replies : List Reply) → Goes m s → Goes m (move m s replies)
unfolding move
move_goes m h s replies f =
    let t = counted m s replies in
    let still = subst (λ (k : Control). keeps_looping k (interval (block_at m k.block)) ≡ true) (sym (same_control m s replies)) f in
    subst (λ (b : Block). Goes m (rest_of_move m b t)) (same_block m s replies)
    (finished_goes m h (block_of m t) (decided (block_of m t) (ticked (block_of m t) t)) (decided_goes m t still))

pub opened_goes : (m : Module) → HasIntervals m → Goes m (opened m)
unfolding opened
opened_goes m h = entered_goes m h 0 _
