-- What is left to do falls by each cycle and each answer.
use Rattle.std.proofs.Common.{◌≡◌, refl, ap, ℕ, zero, suc, ◌<◌, ◌≤◌, true, false, [], ◌∷◌, length, arith}
use Rattle.std.proofs.lemmas.List.{length-set, get_or-set_same, get_or-set_other, length-append}
use Rattle.engine_view.specs.{no_lane, lane_at, lane_with_cycle, with_cycle, RoomedLanes, log_at, sum_to, step_of, emitted_of, are_among}
use Rattle.engine_view.specs.{with_timed, Engine, held_in, HasUnsure, first_of, left_of, left, Held.Held}
use Rattle.event_timing.proofs.ActionBound.{sum_grows}

sum_less : (f g : ℕ → ℕ) (n : ℕ) → ((k : ℕ) → f k ≤ g k) → sum_to f n ≤ sum_to g n
unfolding sum_to
sum_less f g zero l = omega arith
sum_less f g (suc n) l = omega (arith, sum_less f g n l, l n)

abbrev pub left_in : Held → ℕ
left_in h = sum_to (left_of h) (length h.lanes)

-- where less is left of one module, and of the others no more
left_falls : (g h : Held) (m : ℕ) → length g.lanes ≡ length h.lanes → m < length h.lanes
    → ((n : ℕ) → (n ≡ m → ⊥) → left_of g n ≡ left_of h n) → left_of g m < left_of h m
    → left_in g < left_in h
left_falls g h m e l others here =
    rw e (sum_grows (left_of g) (left_of h) (length h.lanes) m l (λ n. let other = others n in grind arith) here)

-- by a cycle of a module whose first queries are verified
pub left_assigned : (h : Held) (m c : ℕ) → m < length h.lanes → first_of h m < emitted_of h m
    → are_among (step_of h m (first_of h m)) (log_at h.logs m).verified ≡ true → left_in (with_timed h m c) < left_in h
unfolding left_of
left_assigned h m c l less among =
    let g = with_timed h m c in
    let lane = get_or-set_same h.lanes m (lane_with_cycle (lane_at h.lanes m) c) no_lane l in
    let longer = length-append (lane_at h.lanes m).cycles (c ∷ []) in
    left_falls g h m (length-set h.lanes m (lane_with_cycle (lane_at h.lanes m) c)) l
    (λ n f. rw (get_or-set_other h.lanes m n (lane_with_cycle (lane_at h.lanes m) c) no_lane f) refl)
    (rw lane (grind arith))

-- by an answer that leaves the lanes and makes them verified
pub left_answered : (g h : Held) (m : ℕ) → g.lanes ≡ h.lanes → m < length h.lanes
    → ((n : ℕ) → (n ≡ m → ⊥) → log_at g.logs n ≡ log_at h.logs n)
    → are_among (step_of h m (first_of h m)) (log_at h.logs m).verified ≡ false
    → are_among (step_of h m (first_of h m)) (log_at g.logs m).verified ≡ true → left_in g < left_in h
unfolding left_of
left_answered g h m lanes l others was now =
    left_falls g h m (rw lanes refl) l (λ n f. rw (lanes, others n f) refl) (rw (lanes, was, now) (omega arith))

-- ---- the same of an engine

pub less_assigned : (s : Engine) (graph : RoomedLanes) (m c : ℕ) → graph.lanes ≡ with_cycle s.graph.lanes m c → m < length s.graph.lanes
    → first_of (held_in s) m < emitted_of (held_in s) m
    → are_among (step_of (held_in s) m (first_of (held_in s) m)) (log_at s.log.logs m).verified ≡ true
    → left (record s { graph = graph }) < left s
unfolding left
less_assigned s graph m c e inside less among = rw e (left_assigned (held_in s) m c inside less among)

pub less_answered : (s t : Engine) (m : ℕ) → t.graph ≡ s.graph → HasUnsure (held_in s) m
    → ((n : ℕ) → (n ≡ m → ⊥) → log_at t.log.logs n ≡ log_at s.log.logs n)
    → are_among (step_of (held_in s) m (first_of (held_in s) m)) (log_at t.log.logs m).verified ≡ true → left t < left s
unfolding left
less_answered s t m e u others now =
    let lanes = ap (λ (g : RoomedLanes). g.lanes) e in
    left_answered (held_in t) (held_in s) m lanes u.inside others u.unsure now
