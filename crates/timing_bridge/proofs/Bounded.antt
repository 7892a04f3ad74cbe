-- A module's own run has fewer steps than the operation limit.
use Rattle.std.proofs.Common.{◌≡◌, ℕ, zero, suc, ◌+◌, ◌≤◌, ◌<◌, List, [], ◌∷◌, map, length, true, false, arith}
use Rattle.std.specs.List.{filter_map}
use Rattle.timing_bridge.specs.{Block, Next, Plan, Due, ModuleState, Reply, block_of, due, FitsEngine, requests, request_for, entered}
use Rattle.timing_bridge.specs.{ticked, decided, followed, finished, committed, move, is_over, module_at, requests_of, after_skip, ready}
use Rattle.timing_bridge.specs.{is_some_access, own, IsBounded, design, seen_request, told_all, due_accesses}
use Rattle.flow_design.specs.declared.design.Module.{Module}
use Rattle.event_timing.proofs.OwnRuns.{own_fits}
use Rattle.timing_bridge.proofs.History.{plan_is_design}
use Rattle.lockstep_defs.proofs.Agrees.{below_limit}
use Rattle.event_timing.specs.Machines as theory

-- ---- a move adds at least what is due to the count

followed_counts : (m : Module) (x : Next) (n : ℕ) (v : ModuleState) → n ≤ v.count → n ≤ (followed m x v).count
unfolding entered
followed_counts m x n v h = grind arith

decided_counts : (b : Block) (n : ℕ) (u : ModuleState) → n ≤ u.count → n ≤ (decided b u).count
unfolding decided
decided_counts b n u h = grind arith

finished_counts : (m : Module) (b : Block) (n : ℕ) (v : ModuleState) → n ≤ v.count → n ≤ (finished m b v).count
unfolding finished
finished_counts m b n v h = grind (arith, followed_counts m b.next n v)

ticked_counts : (b : Block) (n : ℕ) (u : ModuleState) → n ≤ u.count → n ≤ (ticked b u).count
unfolding ticked
ticked_counts b n u h = h

pub move_counts : (m : Module) (s : ModuleState) (rs : List Reply) → s.count + length (due m s) ≤ (move m s rs).count
unfolding move
move_counts m s rs =
    let b = block_of m s in
    let n = s.count + length (due m s) in
    let t = record (committed m s rs) { count = n } in
    finished_counts m b n (decided b (ticked b t)) (decided_counts b n (ticked b t) (ticked_counts b n t (omega arith)))

skip_counts : (p : Plan) (i n : ℕ) (s : ModuleState) → s.count ≤ (after_skip (design p) i n s).count
skip_counts p i zero s = omega arith
skip_counts p i (suc n) s =
    let t = after_skip (design p) i n s in
    let rest = skip_counts p i n s in
    omega (arith, move_counts (module_at p i) t (told_all (requests_of p (i, t)) []))

some_due : (p : Plan) (i : ℕ) (s : ModuleState) → is_some_access (due_accesses p i s) ≡ true → 0 < length (due (module_at p i) s)
unfolding requests
some_due p i s h = by_list (due (module_at p i) s) h
  where
    by_list : (ds : List Due) → is_some_access (map seen_request (filter_map (request_for p.design.channels (module_at p i) s) ds)) ≡ true
        → 0 < length ds
    by_list [] h = cc
    by_list (d ∷ ds) h = omega arith

-- so many steps, so much counted
steps_count : (p : Plan) → FitsEngine p → (i : ℕ) (r : ℕ → List theory.Reply) (k : ℕ)
    → ((j : ℕ) → j < k → is_over p.ops (ready (design p) i (own (design p) i r j)) ≡ false) → k ≤ (own (design p) i r k).count
unfolding own
steps_count p h i r zero f = omega arith
steps_count p h i r (suc k) f =
    let s = own (design p) i r k in
    let before = steps_count p h i r k (λ j l. f j (omega arith)) in
    let t = ready (design p) i s in
    let skipped = skip_counts p i ((design p).quiet i s) s in
    let is = plan_is_design p h in
    let some = some_due p i t (is.quiet_ends i s (own_fits (design p) is i r k) (f k (omega arith))) in
    let more = move_counts (module_at p i) t (told_all (requests_of p (i, t)) (r k)) in
    omega arith

pub plan_is_bounded : (p : Plan) → FitsEngine p → IsBounded (design p) p.ops
plan_is_bounded p h i r k f =
    let before = steps_count p h i r k (λ j l. f j (omega arith)) in
    let skipped = skip_counts p i ((design p).quiet i (own (design p) i r k)) (own (design p) i r k) in
    let below = below_limit p.ops (ready (design p) i (own (design p) i r k)) (f k (omega arith)) in
    omega arith
