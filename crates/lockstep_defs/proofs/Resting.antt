-- Quiet clocks end.
use Rattle.std.proofs.Common.{◌≡◌, ℕ, zero, suc, ◌+◌, ◌*◌, ◌-◌, ◌≤◌, ◌<◌, List, [], ◌∷◌, length, true, false, refl, sym, ap, subst, arith}
use Rattle.std.proofs.Common.{◌∙◌, zero-add, add-zero, suc-add, ◌⊎◌, inl, inr, mul-le-mul_right, suc-mul}
use Rattle.std.proofs.lemmas.Bool.{cases_Bool, or_parts, or_left}
use Rattle.lockstep_defs.specs.{BlockKind, Block, Plan, ModuleState, Reply, Request, IsBlockSound, IsKindSound, FitsEngine, no_block}
use Rattle.lockstep_defs.specs.{block_at, is_loop, interval, interval_of, is_over, move, opened, module_at, requests_of, Own, own_next}
use Rattle.lockstep_defs.specs.{own_run, own_later, is_some_request, rests, skip, quiet_below, span, measure, quiet, fits}
use Rattle.flow_design.specs.declared.design.BlockKind.TheVariants.{Plain, Loop}
use Rattle.lockstep_defs.proofs.{Agrees.own_suc, Agrees.below_limit, Rules.sound_block}
use Rattle.lockstep_defs.proofs.Moves.{left, Fallen, move_falls, HasIntervals, move_goes, opened_goes}

-- ---- each state that a module comes to fits

loop_interval : (registers len : ℕ) (k : BlockKind) → IsKindSound registers len k → is_loop k ≡ true → 0 < interval_of k len
loop_interval registers len Plain s l = cc
loop_interval registers len (Loop ii again) s l = s.interval

pub has_intervals : (p : Plan) → FitsEngine p → (i : ℕ) → HasIntervals (module_at p i)
has_intervals p h i b l = by_block (sound_block p h i b) l
  where
    by_block : IsBlockSound (length p.design.channels) (module_at p i) (block_at (module_at p i) b)
        ⊎ (block_at (module_at p i) b ≡ no_block)
        → is_loop (block_at (module_at p i) b).kind ≡ true → 0 < interval (block_at (module_at p i) b)
    by_block (inl s) l = loop_interval _ _ (block_at (module_at p i) b).kind s.kind l
    by_block (inr none) l = let no : is_loop no_block.kind ≡ true = subst (λ (c : Block). is_loop c.kind ≡ true) none l in cc

pub fits_opened : (p : Plan) → FitsEngine p → (i : ℕ) → fits p i (opened (module_at p i)) ≡ true
fits_opened p h i = opened_goes (module_at p i) (has_intervals p h i)

pub fits_move : (p : Plan) → FitsEngine p → (i : ℕ) (s : ModuleState) (replies : List Reply) → fits p i s ≡ true
    → fits p i (move (module_at p i) s replies) ≡ true
fits_move p h i s replies f = move_goes (module_at p i) (has_intervals p h i) s replies f

-- ---- the measure falls

more_done : (r q w l k : ℕ) → suc q ≤ r → k ≤ l + w → q * (w + 1) + k < r * (w + 1) + l
more_done r q w l k h n =
    let a = mul-le-mul_right (w + 1) h in
    let b = suc-mul q (w + 1) in
    omega arith

nearer : (r q w l k : ℕ) → q ≤ r → k < l → q * (w + 1) + k < r * (w + 1) + l
nearer r q w l k h n = let a = mul-le-mul_right (w + 1) h in omega arith

measure_falls : (p : Plan) (i : ℕ) (s : ModuleState) → fits p i s ≡ true → is_over p.ops s ≡ false
    → ((move (module_at p i) s []).ended ≡ true) ⊎ (measure p i (move (module_at p i) s []) < measure p i s)
unfolding measure
measure_falls p i s f h = by_case (move_falls (module_at p i) s [] f) (below_limit p.ops s h)
  where
    by_case : Fallen (module_at p i) s (move (module_at p i) s []) → s.count < p.ops
        → ((move (module_at p i) s []).ended ≡ true)
        ⊎ (((p.ops - (move (module_at p i) s []).count) * (span (module_at p i).blocks + 1) + left (module_at p i)
        (move (module_at p i) s []))
        < ((p.ops - s.count) * (span (module_at p i).blocks + 1) + left (module_at p i) s))
    by_case (inl over) below = inl over
    by_case (inr (inl up)) below =
        inr (more_done (p.ops - s.count) (p.ops - (move (module_at p i) s []).count) (span (module_at p i).blocks) _ _ (omega (arith, up.0))
        up.1)
    by_case (inr (inr near)) below =
        inr (nearer (p.ops - s.count) (p.ops - (move (module_at p i) s []).count) (span (module_at p i).blocks) _ _ (omega (arith, near.0))
        near.1)

-- ---- the first state in which it rests

pub skip_front : (p : Plan) (i n : ℕ) (s : ModuleState) → skip p i (suc n) s ≡ skip p i n (move (module_at p i) s [])
skip_front p i zero s = refl
skip_front p i (suc n) s = ap (λ (z : ModuleState). move (module_at p i) z []) (skip_front p i n s)

below_zero : (p : Plan) (i : ℕ) (s : ModuleState) → quiet_below p i zero s ≡ 0
unfolding quiet_below
below_zero p i s = refl

below_rests : (p : Plan) (i n : ℕ) (s : ModuleState) → rests p i s ≡ true → quiet_below p i (suc n) s ≡ 0
unfolding quiet_below
below_rests p i n s h = rw (h, quiet_below) refl

below_goes : (p : Plan) (i n : ℕ) (s : ModuleState) → rests p i s ≡ false
    → quiet_below p i (suc n) s ≡ suc (quiet_below p i n (move (module_at p i) s []))
unfolding quiet_below
below_goes p i n s h = rw (h, quiet_below) refl

idle : (p : Plan) (i n : ℕ) (s : ModuleState) (j : ℕ) → j < quiet_below p i n s → rests p i (skip p i j s) ≡ false
idle p i zero s j h = let e = below_zero p i s in absurd (omega arith)
idle p i (suc n) s j h = by_test (idle p i n (move (module_at p i) s [])) (cases_Bool (rests p i s)) j h
  where
    by_test : ((j : ℕ) → j < quiet_below p i n (move (module_at p i) s []) → rests p i (skip p i j (move (module_at p i) s [])) ≡ false)
        → ((rests p i s ≡ true) ⊎ (rests p i s ≡ false)) → (j : ℕ) → j < quiet_below p i (suc n) s → rests p i (skip p i j s) ≡ false
    by_test rest (inl e) j h = let q = below_rests p i n s e in absurd (omega arith)
    by_test rest (inr e) zero h = e
    by_test rest (inr e) (suc j) h =
        let q = below_goes p i n s e in
        subst (λ (z : ModuleState). rests p i z ≡ false) (sym (skip_front p i j s)) (rest j (omega arith))

over_rests : (p : Plan) (i : ℕ) (s : ModuleState) → s.ended ≡ true → rests p i s ≡ true
unfolding is_over
over_rests p i s h = or_left _ _ (or_left s.ended _ h)

reaches : (p : Plan) → FitsEngine p → (i n : ℕ) (s : ModuleState) → fits p i s ≡ true → ((rests p i s ≡ true) ⊎ (measure p i s < n))
    → rests p i (skip p i (quiet_below p i n s) s) ≡ true
reaches p r i zero s f (inl e) = rw (below_zero p i s) e
reaches p r i zero s f (inr h) = absurd (omega arith)
reaches p r i (suc n) s f h = by_test (reaches p r i n (move (module_at p i) s []) (fits_move p r i s [] f)) (cases_Bool (rests p i s)) h
  where
    by_test : (((rests p i (move (module_at p i) s []) ≡ true) ⊎ (measure p i (move (module_at p i) s []) < n))
        → rests p i (skip p i (quiet_below p i n (move (module_at p i) s [])) (move (module_at p i) s [])) ≡ true)
        → ((rests p i s ≡ true) ⊎ (rests p i s ≡ false)) → ((rests p i s ≡ true) ⊎ (measure p i s < suc n))
        → rests p i (skip p i (quiet_below p i (suc n) s) s) ≡ true
    by_test rest (inl e) h = rw (below_rests p i n s e) e
    by_test rest (inr e) (inl t) = cc
    by_test rest (inr e) (inr h) =
        let q = below_goes p i n s e in
        let next : (rests p i (move (module_at p i) s []) ≡ true) ⊎ (measure p i (move (module_at p i) s []) < n) =
        elim (measure_falls p i s f (or_parts (is_over p.ops s) (is_some_request (requests_of p (i, s))) e).0) [
          | inl over ↦ inl (over_rests p i (move (module_at p i) s []) over)
          | inr less ↦ inr (omega arith)
        ] in
        rw q (subst (λ (z : ModuleState). rests p i z ≡ true) (sym (skip_front p i (quiet_below p i n (move (module_at p i) s [])) s))
        (rest next))

-- ---- the quiet clocks

pub quiet_goes : (p : Plan) (i : ℕ) (s : ModuleState) (j : ℕ) → j < quiet p i s → rests p i (skip p i j s) ≡ false
unfolding quiet
quiet_goes p i s j h = idle p i (suc (measure p i s)) s j h

pub quiet_rests : (p : Plan) → FitsEngine p → (i : ℕ) (s : ModuleState) → fits p i s ≡ true → rests p i (skip p i (quiet p i s) s) ≡ true
unfolding quiet
quiet_rests p r i s f = reaches p r i (suc (measure p i s)) s f (inr (omega arith))

-- ---- an own run in its quiet clocks

no_requests : (rs : List Request) → is_some_request rs ≡ false → rs ≡ []
no_requests [] h = refl
no_requests (r ∷ rs) h = cc

one_quiet : (p : Plan) (i : ℕ) (replies : List (List Reply)) (o : Own) (n : ℕ) → rests p i (skip p i n o.state) ≡ false
    → own_next p i replies (own_later p i n o) ≡ own_later p i (suc n) o
unfolding own_next
one_quiet p i replies o n h =
    let s = skip p i n o.state in
    let parts = or_parts (is_over p.ops s) (is_some_request (requests_of p (i, s))) h in
    let none = no_requests (requests_of p (i, s)) parts.1 in
    let later : (o.since + n) + 1 ≡ o.since + suc n = omega arith in
    rw (parts.0, none) (ap (λ (c : ℕ). record { state = move (module_at p i) s []; steps = o.steps; since = c }) later)

-- where it does not rest, nothing but the clock and the state goes on
pub own_goes : (p : Plan) (i : ℕ) (replies : List (List Reply)) (n q : ℕ)
    → ((j : ℕ) → j < q → rests p i (skip p i j (own_run p i replies n).state) ≡ false)
    → own_run p i replies (q + n) ≡ own_later p i q (own_run p i replies n)
own_goes p i replies n zero h = rw (zero-add, add-zero) refl
own_goes p i replies n (suc q) h =
    let before = own_goes p i replies n q (λ j l. h j (omega arith)) in
    rw suc-add
    (own_suc p i replies (q + n) ∙ (ap (own_next p i replies) before ∙ one_quiet p i replies (own_run p i replies n) q (h q (omega arith))))
