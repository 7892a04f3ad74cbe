-- A step's cycle more is the theory's Assign, and what is held stays sound.
use Rattle.std.proofs.Common.{◌≡◌, refl, sym, ap, subst, ◌∙◌, ℕ, zero, suc, ◌<◌, List, [], ◌∷◌, ◌++◌, length, get_or, arith}
use Rattle.std.proofs.lemmas.Bool.Decides.{nat_tests}
use Rattle.std.proofs.lemmas.List.{length-set, get_or-set_same, get_or-set_other, length-append, get_or_push}
use Rattle.std.specs.Prelude.{All}
use mathlib.Core.Path.{fun_ext}
use Rattle.engine_view.specs.{Lane, IsSoundLane, no_lane, lane_at, lane_with_cycle, with_cycle, Design, put, put_at, after_assign}
use Rattle.engine_view.specs.{replies_at, core_of, with_timed, ShowsCore, IsSound, AreWhole, queries_before, Held.Held}
use Rattle.time_engine.proofs.Given.{accesses_stay, places_stay, steps_stay}
use Rattle.event_timing.specs.Core.{Core}
use Rattle.engine_view.proofs.{Cores.same_core, Placing.taken_stays}

cycles_there : (lanes : List Lane) (owner cycle : ℕ) → owner < length lanes
    → (lane_at (with_cycle lanes owner cycle) owner).cycles ≡ (lane_at lanes owner).cycles ++ cycle ∷ []
cycles_there lanes owner cycle inside = rw (get_or-set_same lanes owner (lane_with_cycle (lane_at lanes owner) cycle) no_lane inside) refl

cycles_other : (lanes : List Lane) (owner cycle k : ℕ) → owner < length lanes → (k ≡ owner → ⊥)
    → (lane_at (with_cycle lanes owner cycle) k).cycles ≡ (lane_at lanes k).cycles
cycles_other lanes owner cycle k inside apart =
    rw (get_or-set_other lanes owner k (lane_with_cycle (lane_at lanes owner) cycle) no_lane apart) refl

-- ---- what is read off the steps alone

-- the same steps, channels and outcomes
pub record IsAlike (g h : Held) : Type 0 where
  pub steps : (m : ℕ) → (lane_at g.lanes m).steps ≡ (lane_at h.lanes m).steps
  pub channels : g.channels ≡ h.channels
  pub logs : g.logs ≡ h.logs

alike_replies : (g h : Held) → IsAlike g h → (m : ℕ) → replies_at g m ≡ replies_at h m
alike_replies g h a m = fun_ext (λ k. rw (a.steps m, a.channels, a.logs) refl)

pub alike_queries : (g h : Held) → IsAlike g h → (m k : ℕ) → queries_before g m k ≡ queries_before h m k
unfolding queries_before
alike_queries g h a m zero = refl
alike_queries g h a m (suc k) = rw (a.steps m, alike_queries g h a m k) refl

alike_state : {S : Type 0} → (d : Design S) (g h : Held) → IsAlike g h → (m k : ℕ) → (core_of d g).state m k ≡ (core_of d h).state m k
alike_state {S} d g h a m k = rw (alike_replies g h a m, a.steps m) refl

-- ---- the core

pub put_is : {A : Type 0} (f : ℕ → A) (m n : ℕ) (y z : A) → (n ≡ m → z ≡ y) → ((n ≡ m → ⊥) → z ≡ f n) → z ≡ put f m y n
put_is f m n y z e g = grind (arith, nat_tests)

pub put_at_is : {A : Type 0} (f : ℕ → ℕ → A) (m k n j : ℕ) (y z : A) → (n ≡ m → j ≡ k → z ≡ y) → ((n ≡ m → j ≡ k → ⊥) → z ≡ f n j)
    → z ≡ put_at f m k y n j
put_at_is f m k n j y z e g = grind (arith, nat_tests)

pub timed_alike : (h : Held) (m c : ℕ) → m < length h.lanes → IsAlike (with_timed h m c) h
timed_alike h m c inside = record { steps = λ n. steps_stay h.lanes m c n inside; channels = refl; logs = refl }

get_push_below : (xs : List ℕ) (y k : ℕ) → (k ≡ length xs → ⊥) → get_or (xs ++ y ∷ []) k 0 ≡ get_or xs k 0
get_push_below [] y zero f = absurd (f refl)
get_push_below [] y (suc k) f = refl
get_push_below (x ∷ xs) y zero f = refl
get_push_below (x ∷ xs) y (suc k) f = get_push_below xs y k (λ e. f (ap (λ z. suc z) e))

-- the core that is read off is the one after the theory's Assign
pub assigned_core : {S : Type 0} → (d : Design S) (h : Held) (m c : ℕ) → m < length h.lanes
    → core_of d (with_timed h m c) ≡ after_assign (core_of d h) m c
assigned_core {S} d h m c inside =
    let a = timed_alike h m c inside in
    let more : length (lane_at (with_cycle h.lanes m c) m).cycles ≡ suc (length (lane_at h.lanes m).cycles) =
    rw (cycles_there h.lanes m c inside) (omega (arith, length-append (lane_at h.lanes m).cycles (c ∷ []))) in
    same_core (core_of d (with_timed h m c)) (after_assign (core_of d h) m c) (record {
      emitted = λ n. ap length (a.steps n);
      over = λ n. refl;
      state = λ n k. alike_state d (with_timed h m c) h a n k;
      wait = λ n k. rw (a.steps n) refl;
      flags = λ n k. rw (a.steps n) refl;
      answered = λ n k. rw (a.steps n) refl;
      verified = λ n k. rw (a.steps n) refl;
      timed = λ n. put_is (core_of d h).timed m n (suc (length (lane_at h.lanes m).cycles))
          (length (lane_at (with_cycle h.lanes m c) n).cycles)
          (λ e. rw e more) (λ f. rw (cycles_other h.lanes m c n inside f) refl);
      cycle = λ n k. put_at_is (core_of d h).cycle m (length (lane_at h.lanes m).cycles) n k c
          (get_or (lane_at (with_cycle h.lanes m c) n).cycles k 0)
          (λ e f. rw (e, f, cycles_there h.lanes m c inside) (get_or_push (lane_at h.lanes m).cycles c 0 (length (lane_at h.lanes m).cycles)
          refl))
          (λ f. other n k f);
    })
  where
    other : (n k : ℕ) → (n ≡ m → k ≡ length (lane_at h.lanes m).cycles → ⊥)
        → get_or (lane_at (with_cycle h.lanes m c) n).cycles k 0 ≡ get_or (lane_at h.lanes n).cycles k 0
    other n k f =
        let there = cycles_there h.lanes m c inside in
        let below = get_push_below (lane_at h.lanes m).cycles c k in
        let same = cycles_other h.lanes m c n inside in
        grind arith

-- ---- soundness

pub whole_kept : (g h : Held) → IsAlike g h → (m n : ℕ) → AreWhole h m n → AreWhole g m n
whole_kept g h a m n w = record { steps = w.steps; within = rw (a.steps m) w.within; all = w.all ∙ sym (alike_queries g h a m w.steps) }

pub assigned_shows : {S : Type 0} → (d : Design S) (h : Held) (x : Core S) (m c : ℕ) → m < length h.lanes
    → All IsSoundLane (with_cycle h.lanes m c) → ShowsCore d h x
    → ShowsCore d (with_timed h m c) (after_assign x m c)
assigned_shows {S} d h x m c inside lanes s =
    let a = timed_alike h m c inside in
    record {
      lanes = length-set h.lanes m (lane_with_cycle (lane_at h.lanes m) c) ∙ s.lanes;
      logs = s.logs;
      overs = s.overs;
      sound_lanes = lanes;
      sound_logs = s.sound_logs;
      inside = accesses_stay h.lanes m c h.channels inside s.inside;
      places = places_stay h.lanes m c h.channels inside s.places;
      accesses = λ n k l. rw (a.steps n) (s.accesses n k l);
      ordinals = λ n k l. rw (a.steps n) (s.ordinals n k l);
      first_query = λ n k l. rw (a.steps n) (s.first_query n k l) ∙ sym (alike_queries (with_timed h m c) h a n k);
      kinds = s.kinds;
      lags = s.lags;
      taken = λ side ch l. taken_stays d x (after_assign x m c) (λ w side c k. refl) (λ w. refl) side ch _ (s.taken side ch l);
      values = s.values;
      recorded = λ n l. whole_kept (with_timed h m c) h a n _ (s.recorded n l);
      verified = λ n l. whole_kept (with_timed h m c) h a n _ (s.verified n l);
    }

-- what is held stays a core of the design
pub assigned_sound : {S : Type 0} → (d : Design S) (h : Held) (m c : ℕ) → m < length h.lanes → All IsSoundLane (with_cycle h.lanes m c)
    → IsSound d h → IsSound d (with_timed h m c)
assigned_sound {S} d h m c inside lanes s =
    subst (ShowsCore d (with_timed h m c)) (sym (assigned_core d h m c inside)) (assigned_shows d h (core_of d h) m c inside lanes s)
