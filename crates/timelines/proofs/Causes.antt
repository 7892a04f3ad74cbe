-- What a final core of a plan tells of a module in a clock is what the lockstep machine does.
use Rattle.std.proofs.Common.{◌≡◌, ℕ, ◌<◌, ◌≤◌, List, [], ◌∷◌, map, Bool, true, false, not, ◌&&◌, cond, refl, sym, ◌∙◌, ap, arith, Some}
use Rattle.std.proofs.Common.{None}
use Rattle.std.proofs.lemmas.Bool.{cond-true, cond-false, and_parts, or_parts, le-ltb}
use Rattle.std.specs.List.{find, list_any, AllByRecursion}
use Rattle.timelines.specs.{is_blocking, Plan, Request, FitsEngine, ModuleState, is_over, stalls, requests_of, moves, state, state_at, Each}
use Rattle.timelines.specs.{done, from, answer, view, IsFinal, IsAgreed, design, lockstep_run, seen_request, doing_by, blocker, doing}
use Rattle.timelines.specs.{known_in, arrives, waits_in, core_blocker, waits_at, doing_at, core_doing}
use Rattle.timelines.specs.declared.span.Doing.TheVariants.{Moves}
use Rattle.event_timing.specs.Core.{Core}
use Rattle.event_timing.proofs.{Agreement.stuck_ended, Fronts.agrees}
use Rattle.timing_bridge.proofs.{Alike.Alike, Alike.alike, Settling.find_alike}
use Rattle.timing_bridge.proofs.History.{plan_is_design, run_is_history, moves_same}
use Rattle.timelines.proofs.Placed.{arrives_before}
use Rattle.timelines.proofs.Waits.{moves_early, waits_right, ends_right, step_clocks, last_clocks, cycle_moves}
use Rattle.event_timing.specs.Histories as counted

-- ---- lists

find_none : (f : Request → Bool) (rs : List Request) → list_any f rs ≡ false → find f rs ≡ None
find_none f [] e = refl
find_none f (r ∷ rs) e =
    let parts = or_parts (f r) (list_any f rs) e in
    cond-false (f r) (Some r) (find f rs) parts.0 ∙ find_none f rs parts.1

-- ---- definitions

-- a module that moves does so
moves-doing : (p : Plan) (c i : ℕ) → moves p c (state p c).contents (i, state_at p c i) ≡ true → doing p c i ≡ Some Moves
unfolding moves doing
moves-doing p c i e =
    let parts = and_parts (not (is_over p.ops (state_at p c i)))
    (not (list_any (stalls p c (state p c).contents) (requests_of p (i, state_at p c i)))) e in
    cond-false (is_over p.ops (state_at p c i)) None _ (off (is_over p.ops (state_at p c i)) parts.0)
    ∙ ap (λ o. Some (doing_by o)) (find_none (stalls p c (state p c).contents) (requests_of p (i, state_at p c i))
    (off (list_any (stalls p c (state p c).contents) (requests_of p (i, state_at p c i))) parts.1))
  where
    off : (b : Bool) → not b ≡ true → b ≡ false
    off true h = cc
    off false h = refl

-- a module that is not over does what its first blocker says
lives-doing : (p : Plan) (c i : ℕ) → is_over p.ops (state_at p c i) ≡ false → doing p c i ≡ Some (doing_by (blocker p c i))
unfolding doing
lives-doing p c i e = cond-false (is_over p.ops (state_at p c i)) None _ e

pub over-doing : (p : Plan) (c i : ℕ) → is_over p.ops (state_at p c i) ≡ true → doing p c i ≡ None
unfolding doing
over-doing p c i e = cond-true (is_over p.ops (state_at p c i)) None _ e

-- ---- clock by clock

-- between two steps a module moves
pub gap_moves : (p : Plan) → FitsEngine p → (limit : ℕ) (x : Core ModuleState) → IsAgreed (design p) (lockstep_run p) limit x
    → (i k c : ℕ) → k ≤ x.timed i → done (design p) (lockstep_run p) i c ≡ k → c < arrives (design p) x i k → doing p c i ≡ Some Moves
gap_moves p h limit x g i k c l e q =
    moves-doing p c i (sym (moves_same p h c i)
    ∙ moves_early (design p) (lockstep_run p) (plan_is_design p h) (run_is_history p h) limit x g i k c l e q)

-- and in the cycle of a step
pub step_moves : (p : Plan) → FitsEngine p → (limit : ℕ) (x : Core ModuleState) → IsAgreed (design p) (lockstep_run p) limit x
    → (i k : ℕ) → k < x.timed i → doing p (x.cycle i k) i ≡ Some Moves
step_moves p h limit x g i k l =
    moves-doing p (x.cycle i k) i
    (sym (moves_same p h (x.cycle i k) i) ∙ cycle_moves (design p) (lockstep_run p) limit x g i k l)

stalls_known : (p : Plan) (x : Core ModuleState) (c i k : ℕ) (rs : List Request) → AllByRecursion (Alike p c) rs
    → Each (λ a. counted.is_possible (design p) (lockstep_run p) c a.side a.channel
    ≡ answer (known_in (design p) (view (design p) x) i k a) c) (map seen_request rs)
    → AllByRecursion (λ r. stalls p c (state p c).contents r ≡ waits_in p x i k c r) rs
stalls_known p x c i k [] h e = tt
stalls_known p x c i k (r ∷ rs) h e = (
  ap (λ (b : Bool). is_blocking r.kind && not b) (sym (h.0).possible ∙ e.0),
  stalls_known p x c i k rs h.1 e.1,
)

-- from the clock in which it comes to the step, its first blocker is the first request that the core knows to be not possible yet
pub wait_causes : (p : Plan) → FitsEngine p → (limit : ℕ) (x : Core ModuleState) → IsAgreed (design p) (lockstep_run p) limit x
    → IsFinal (design p) limit x → (i k c : ℕ) → k ≤ x.timed i → k < x.emitted i → c ≤ limit
    → done (design p) (lockstep_run p) i c ≡ k → arrives (design p) x i k ≤ c
    → doing p c i ≡ Some (doing_by (core_blocker p x i k c))
wait_causes p h limit x g f i k c l n b e q =
    let right = waits_right (design p) (lockstep_run p) (plan_is_design p h) (run_is_history p h) limit x g f i k c l n b e q in
    let lives : is_over p.ops (state_at p c i) ≡ false = ap (is_over p.ops) right.0 ∙ g.marks.lives i k n in
    let asked = requests_of p (i, x.state i k) in
    lives-doing p c i lives
    ∙ ap (λ o. Some (doing_by o))
    (ap (λ (s : ModuleState). find (stalls p c (state p c).contents) (requests_of p (i, s))) right.0
    ∙ find_alike (stalls p c (state p c).contents) (waits_in p x i k c) asked
    (stalls_known p x c i k asked (alike p h c i (x.state i k)) right.1))

doing_seen : (p : Plan) (x : Core ModuleState) (i k c : ℕ) (rs : List Request)
    → doing_by (find (waits_in p x i k c) rs)
    ≡ doing_at (find (waits_at (known_in (design p) (view (design p) x) i k) c) (map seen_request rs))
doing_seen p x i k c [] = refl
doing_seen p x i k c (r ∷ rs) = by_test (waits_in p x i k c r) (doing_seen p x i k c rs)
  where
    by_test : (b : Bool) → doing_by (find (waits_in p x i k c) rs)
        ≡ doing_at (find (waits_at (known_in (design p) (view (design p) x) i k) c) (map seen_request rs))
        → doing_by (cond b (Some r) (find (waits_in p x i k c) rs))
        ≡ doing_at (cond b (Some (seen_request r)) (find (waits_at (known_in (design p) (view (design p) x) i k) c) (map seen_request rs)))
    by_test true h = refl
    by_test false h = h

-- ---- all clocks of a module

-- while a module stands at an emitted step, it does what the core tells
pub stands-doing : (p : Plan) → FitsEngine p → (limit : ℕ) (x : Core ModuleState) → IsAgreed (design p) (lockstep_run p) limit x
    → IsFinal (design p) limit x → (i k c : ℕ) → k ≤ x.timed i → k < x.emitted i → c ≤ limit
    → done (design p) (lockstep_run p) i c ≡ k → arrives (design p) x i k ≤ c → doing p c i ≡ Some (core_doing p x i k c)
stands-doing p h limit x g f i k c l n b e q =
    wait_causes p h limit x g f i k c l n b e q ∙ ap (λ d. Some d) (doing_seen p x i k c (requests_of p (i, x.state i k)))

-- up to a step with a cycle it moves
pub timed_gap : (p : Plan) → FitsEngine p → (limit : ℕ) (x : Core ModuleState) → IsAgreed (design p) (lockstep_run p) limit x
    → (i k c : ℕ) → k < x.timed i → from (x.cycle i) k ≤ c → c < arrives (design p) x i k → c ≤ x.cycle i k → doing p c i ≡ Some Moves
timed_gap p h limit x g i k c l a b t =
    gap_moves p h limit x g i k c (omega arith) (step_clocks (design p) (lockstep_run p) limit x g i k c l a t) b

-- it comes to the step in its cycle or before
pub timed_after : (p : Plan) → FitsEngine p → (limit : ℕ) (x : Core ModuleState) → IsAgreed (design p) (lockstep_run p) limit x
    → (i k : ℕ) → k < x.timed i → arrives (design p) x i k ≤ x.cycle i k
timed_after p h limit x g i k l =
    arrives_before (design p) (lockstep_run p) (plan_is_design p h) (run_is_history p h) (view (design p) x)
    (agrees (design p) (lockstep_run p) limit x g.marks g.time) i k l

-- after the last step with a cycle it moves up to its next step, or to its end
pub last_gap : (p : Plan) → FitsEngine p → (limit : ℕ) (x : Core ModuleState) → IsAgreed (design p) (lockstep_run p) limit x
    → IsFinal (design p) limit x → (i c : ℕ) → c ≤ limit → from (x.cycle i) (x.timed i) ≤ c → c < arrives (design p) x i (x.timed i)
    → doing p c i ≡ Some Moves
last_gap p h limit x g f i c b a q =
    gap_moves p h limit x g i (x.timed i) c (omega arith)
    (last_clocks (design p) (lockstep_run p) (plan_is_design p h) (run_is_history p h) limit x g f i c b a) q

-- and where there is none, it is over from then on
pub last_over : (p : Plan) → FitsEngine p → (limit : ℕ) (x : Core ModuleState) → IsAgreed (design p) (lockstep_run p) limit x
    → IsFinal (design p) limit x → (i c : ℕ) → x.timed i ≡ x.emitted i → c ≤ limit → arrives (design p) x i (x.timed i) ≤ c
    → doing p c i ≡ None
last_over p h limit x g f i c n b a =
    let none = le-ltb (x.timed i) (x.emitted i) (omega arith) in
    let over = stuck_ended (design p) (lockstep_run p) (plan_is_design p h) limit x g.marks g.time f.quiet i none in
    over-doing p c i (ap (is_over p.ops) (ends_right (design p) (lockstep_run p) (plan_is_design p h) (run_is_history p h) limit x g i c
    (last_clocks (design p) (lockstep_run p) (plan_is_design p h) (run_is_history p h) limit x g f i c b (omega arith)) a) ∙ over)
