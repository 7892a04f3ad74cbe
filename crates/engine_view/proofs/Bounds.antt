-- The determined cycle of a step, access by access, is the theory's.
use Rattle.std.proofs.Common.{◌≡◌, refl, sym, ap₂, drop, ◌∙◌, ℕ, zero, suc, ◌+◌, ◌-◌, ◌<◌, ◌≤◌, ◌⊎◌, max, Bool, true, false, List, [], ◌∷◌}
use Rattle.std.proofs.Common.{length, map, get_or, Option, None, Some, is_some, is_none, arith, inl, inr, unwrap_or, position}
use Rattle.std.proofs.{lemmas.Bool.Decides.nat_tests, lemmas.Option.slice_get-get_or, lemmas.Option.slice_get_past, lemmas.List.get_or_past}
use Rattle.std.proofs.lemmas.Bool.{cases_lt, cases_Bool, lt-ltb, le-ltb}
use Rattle.std.proofs.lemmas.List.Elements.{All-head, All-tail}
use Rattle.std.specs.Prelude.{All, option_and_then}
use Rattle.engine_view.specs.{is_blocking, Access, Step, Lane, IsSoundLane, no_lane, lane_at, last_cycle, Channel, when_possible}
use Rattle.engine_view.specs.{known_clock, is_waiting, clocks_of, latest, open_step, arrival, first_waiting, cycle_unless, determined}
use Rattle.engine_view.specs.{Design, IsDesign, from, first_accesses, view, known_of, both, bound, unblocked_clock, to_clock, candidate}
use Rattle.engine_view.specs.{step_of, no_step, seen, core_of, waited, IsSound, as_known, Held.Held}
use Rattle.time_engine.proofs.LatestClocks.{clocks_of-append, clocks_of_query, clocks_of_known, clocks_of-none}
use Rattle.event_timing.specs.{Core.Core, Enablers.Known.From, Known}
use Rattle.event_timing.proofs.Candidate.{bound_blocks, bound_free}
use Rattle.engine_view.proofs.Knowing.{access_known}
use Rattle.time_engine.specs.declared.known.Known as of_code
use Rattle.time_engine.specs.declared.known.Known.TheVariants as code
use Rattle.event_timing.specs.Machines as theory

-- ---- the accesses of a step

latest_none : latest [] ≡ 0
unfolding latest
latest_none = refl

latest_more : (x : ℕ) (xs : List ℕ) → latest (x ∷ xs) ≡ max x (latest xs)
unfolding latest
latest_more x xs = refl

clocks_query : (lanes : List Lane) (channels : List Channel) (a : Access) (as' : List Access) → is_blocking a.kind ≡ false
    → clocks_of lanes channels (a ∷ as') ≡ clocks_of lanes channels as'
clocks_query lanes channels a as' e = clocks_of-append lanes channels (a ∷ []) as' ∙ rw (clocks_of_query lanes channels a e) refl

clocks_known : (lanes : List Lane) (channels : List Channel) (a : Access) (as' : List Access) (u : ℕ) → is_blocking a.kind ≡ true
    → when_possible lanes channels a ≡ code.From u
    → clocks_of lanes channels (a ∷ as') ≡ u ∷ clocks_of lanes channels as'
clocks_known lanes channels a as' u e k = clocks_of-append lanes channels (a ∷ []) as' ∙ rw (clocks_of_known lanes channels a u e k) refl

-- none of them waits, and this is the latest of their clocks; or one waits, and no clock is known
abbrev pub IsBound : List Lane → List Channel → List Access → Known → Type 0
IsBound lanes channels xs b =
    ((position (is_waiting lanes channels) xs ≡ None) × (b ≡ From (latest (clocks_of lanes channels xs))))
    ⊎ ((is_some (position (is_waiting lanes channels) xs) ≡ true) × ((t : ℕ) → to_clock t b ≡ None))

position_head : {X : Type 0} (p : X → Bool) (x : X) (xs : List X) → p x ≡ true → is_some (position p (x ∷ xs)) ≡ true
position_head p x xs e = grind (arith, nat_tests)

pub position_none : {X : Type 0} (p : X → Bool) (x : X) (xs : List X) → p x ≡ false → position p xs ≡ None → position p (x ∷ xs) ≡ None
position_none p x xs e n = grind (arith, nat_tests)

position_some : {X : Type 0} (p : X → Bool) (x : X) (xs : List X) → p x ≡ false → is_some (position p xs) ≡ true
    → is_some (position p (x ∷ xs)) ≡ true
position_some p x xs e n = grind (arith, nat_tests)

both_none : (u : ℕ) (b : Known) → ((t : ℕ) → to_clock t b ≡ None) → (t : ℕ) → to_clock t (both (From u) b) ≡ None
both_none u b f t = let first = f 0 in grind arith

waiting_query : (lanes : List Lane) (channels : List Channel) (a : Access) → is_blocking a.kind ≡ false
    → is_waiting lanes channels a ≡ false
waiting_query lanes channels a e = rw e refl

waiting_known : (lanes : List Lane) (channels : List Channel) (a : Access) (k : of_code.Known) → is_blocking a.kind ≡ true
    → when_possible lanes channels a ≡ k
    → is_waiting lanes channels a ≡ is_none (known_clock k)
waiting_known lanes channels a k e f = rw (e, f) refl

bound_more : (lanes : List Lane) (channels : List Channel) (know : theory.Access
    → Known) (a : Access) (xs : List Access) (k : of_code.Known)
    → is_blocking a.kind ≡ true → when_possible lanes channels a ≡ k → know (seen a) ≡ as_known k
    → IsBound lanes channels xs (bound know (map seen xs))
    → IsBound lanes channels (a ∷ xs) (both (know (seen a)) (bound know (map seen xs)))
bound_more lanes channels know a xs (code.From u) e f g (inl (h1, h2)) =
    let w = waiting_known lanes channels a (code.From u) e f in
    inl (
      position_none (is_waiting lanes channels) a xs w h1,
      rw (
        g,
        h2,
        clocks_known lanes channels a xs u e f,
        latest_more u (clocks_of lanes channels xs),
      ) refl,
    )
bound_more lanes channels know a xs (code.From u) e f g (inr (h1, h2)) =
    let w = waiting_known lanes channels a (code.From u) e f in
    inr (position_some (is_waiting lanes channels) a xs w h1, rw g (both_none u (bound know (map seen xs)) h2))
bound_more lanes channels know a xs code.Never e f g h =
    inr (position_head (is_waiting lanes channels) a xs (waiting_known lanes channels a code.Never e f), rw g (λ t. refl))
bound_more lanes channels know a xs code.Unknown e f g h =
    inr (position_head (is_waiting lanes channels) a xs (waiting_known lanes channels a code.Unknown e f), rw g (λ t. refl))

pub bound_is : (lanes : List Lane) (channels : List Channel) (know : theory.Access → Known) (xs : List Access)
    → All (λ (a : Access). as_known (when_possible lanes channels a) ≡ know (seen a)) xs
    → IsBound lanes channels xs (bound know (map seen xs))
bound_is lanes channels know [] all = inl (refl, rw (clocks_of-none lanes channels, latest_none) refl)
bound_is lanes channels know (a ∷ xs) all =
    let here = All-head (λ (a : Access). as_known (when_possible lanes channels a) ≡ know (seen a)) a xs all in
    let rest = bound_is lanes channels know xs (All-tail (λ (a : Access). as_known (when_possible lanes channels a) ≡ know (seen a)) a xs
    all) in
    elim (cases_Bool (is_blocking a.kind)) [
      | inl e ↦ rw (bound_blocks know (seen a) (map seen xs) e)
          (bound_more lanes channels know a xs (when_possible lanes channels a) e refl (sym here) rest)
      | inr e ↦ rw (bound_free know (seen a) (map seen xs) e)
          (bound_query lanes channels know a xs e (bound know (map seen xs)) rest)
    ]
  where
    bound_query : (lanes : List Lane) (channels : List Channel) (know : theory.Access → Known) (a : Access) (xs : List Access)
        → is_blocking a.kind ≡ false
        → (b : Known) → IsBound lanes channels xs b → IsBound lanes channels (a ∷ xs) b
    bound_query lanes channels know a xs e b (inl (h1, h2)) =
        let waits = waiting_query lanes channels a e in
        inl (position_none (is_waiting lanes channels) a xs waits h1, rw (clocks_query lanes channels a xs e) h2)
    bound_query lanes channels know a xs e b (inr (h1, h2)) =
        inr (position_some (is_waiting lanes channels) a xs (waiting_query lanes channels a e) h1, h2)

-- ---- the step

pub determined_at : (lanes : List Lane) (channels : List Channel) (m : ℕ) (o : Option Step) → open_step (lane_at lanes m) ≡ o
    → determined lanes channels m ≡ option_and_then
    (λ step. cycle_unless (option_and_then (λ step. position (is_waiting lanes channels) step.accesses) o)
    (latest (arrival (lane_at lanes m) step ∷ clocks_of lanes channels step.accesses))) o
unfolding determined first_waiting
determined_at lanes channels m o e = rw e refl

candidate_none : {S : Type 0} → (d : Design S) (x : Core S) (m : ℕ) → x.emitted m ≤ x.timed m → candidate d (view d x) m ≡ None
unfolding candidate
candidate_none {S} d x m l = rw (le-ltb (x.timed m) (x.emitted m) l) refl

candidate_some : {S : Type 0} → (d : Design S) (x : Core S) (m : ℕ) → x.timed m < x.emitted m
    → candidate d (view d x) m ≡ to_clock (unblocked_clock (view d x) m) (bound (known_of d (view d x) m) (first_accesses (view d x) m))
unfolding candidate
candidate_some {S} d x m l = rw (lt-ltb (x.timed m) (x.emitted m) l) refl

-- what is found access by access is found of the step
pub unless : (lanes : List Lane) (channels : List Channel) (xs : List Access) (b : Known) (t : ℕ) → IsBound lanes channels xs b
    → cycle_unless (position (is_waiting lanes channels) xs) (latest (t ∷ clocks_of lanes channels xs)) ≡ to_clock t b
unless lanes channels xs b t (inl (h1, h2)) = rw (h1, h2, latest_more t (clocks_of lanes channels xs)) refl
unless lanes channels xs b t (inr (h1, h2)) = let none = h2 t in grind arith

-- the clock in which the module comes to the step
arrives : (lane : Lane) (n gap : ℕ) → n ≡ length lane.cycles → (0 < n → 1 ≤ gap)
    → unwrap_or (last_cycle lane) 0 + gap ≡ from (λ k. get_or lane.cycles k 0) n + waited n gap
arrives lane zero gap e g = let z : length lane.cycles - 1 ≡ 0 = omega arith in rw (z, slice_get_past lane.cycles 0 (omega arith)) refl
arrives lane (suc k) gap e g =
    let z : length lane.cycles - 1 ≡ k = omega arith in
    let least = g (omega arith) in
    rw (z, slice_get-get_or lane.cycles k 0 (omega arith)) (omega arith)

gap_apart : (steps : List Step) → All (λ (s : Step). 1 ≤ s.gap) (drop 1 steps) → (k : ℕ) (e : Step) → 0 < k → k < length steps
    → 1 ≤ (get_or steps k e).gap
gap_apart [] all k e p l = absurd (omega arith)
gap_apart (s ∷ steps) all zero e p l = absurd (omega arith)
gap_apart (s ∷ steps) all (suc k) e p l = all k e (omega arith)

pub lane_apart : (lanes : List Lane) → All IsSoundLane lanes → (m k : ℕ) → k < length (lane_at lanes m).steps → 0 < k
    → 1 ≤ (get_or (lane_at lanes m).steps k no_step).gap
lane_apart lanes all m k l p =
    let past = get_or_past lanes m no_lane in
    let inside : m < length lanes = grind arith in
    let here = all m no_lane inside in
    gap_apart (lane_at lanes m).steps here.apart k no_step p l

-- the cycle of a module's first step without one is the theory's
pub candidate_is : {S : Type 0} → (d : Design S) → IsDesign d → (h : Held) → IsSound d h → (m : ℕ)
    → determined h.lanes h.channels m ≡ candidate d (view d (core_of d h)) m
candidate_is {S} d i h y m =
    let x = core_of d h in
    let lane = lane_at h.lanes m in
    let k = length lane.cycles in
    elim (cases_lt k (length lane.steps)) [
      | inl less ↦
          let step = step_of h m k in
          let there : open_step lane ≡ Some step = slice_get-get_or lane.steps k no_step less in
          let all = access_known d i h y m less in
          let is = bound_is h.lanes h.channels (known_of d (view d x) m) step.accesses all in
          let t = arrives lane k step.gap refl (lane_apart h.lanes y.sound_lanes m k less) in
          let found = unless h.lanes h.channels step.accesses (bound (known_of d (view d x) m) (map seen step.accesses)) (arrival lane step)
          is in
          determined_at h.lanes h.channels m (Some step) there
          ∙ (found ∙ (ap₂ (λ (a : ℕ) (xs : List theory.Access). to_clock a (bound (known_of d (view d x) m) xs)) t
          (sym (y.accesses m k less)) ∙ sym (candidate_some d x m less)))
      | inr more ↦ determined_at h.lanes h.channels m None (slice_get_past lane.steps k more) ∙ sym (candidate_none d x m more)
    ]
