-- The log that is read off a final core is the history's.
use Rattle.std.proofs.Common.{◌≡◌, refl, sym, ap, ap₂, subst, ◌∙◌, ℕ, ◌+◌, ◌<◌, Bool, true, false, cond, not, List, [], ◌∷◌, ◌++◌, length}
use Rattle.std.proofs.Common.{map, arith, append_assoc}
use Rattle.std.proofs.{lemmas.Option.get_or_from_slice_get, lemmas.List.Sorted.All-permutation, lemmas.List.get_or-map}
use Rattle.std.proofs.{lemmas.List.length-map, lemmas.List.Elements.All-head, lemmas.List.Elements.All-tail}
use Rattle.std.specs.Prelude.{All, IsPermutation, Option, Some, None, flat_map, slice_get, unwrap_or, drop}
use Rattle.std.specs.{Int.from_bool, List.range_with_len}
use Rattle.sim_core.specs.{Access, Step, is_blocking, Plan, Reply, Request, FitsEngine, ModuleState, HistoryStep, requests_of, paired}
use Rattle.sim_core.specs.{IsAccess, replies_told, log_at, IsFinal, IsAgreed, design, lockstep_run, core_step, steps_at, AreSorted, no_step}
use Rattle.sim_core.specs.{step_of, seen, core_of, IsSound, TimedStep, timed_places, step_place, IsTimedKey, AreSortedKeys, lane_at}
use Rattle.sim_core.specs.{value_now, reply_told, replies_now, LoggedAccess, logged, logged_in, log_of, access_request, exchange_of}
use Rattle.sim_core.specs.{logged_replies, step_doing, logged_at}
use Rattle.event_timing.specs.Core.{Core}
use Rattle.timing_bridge.proofs.{InOrder.only_in_order, InOrder.reported_history, Places.sorted_steps}
use Rattle.engine_view.specs.Held.{Held}
use Rattle.engine_report.proofs.{Asking.same_kind, Asking.same_channel, Happening.IsTimed, Happening.all_timed}
use Rattle.run_ahead.proofs.Finding.{told_from}
use Rattle.sim_core.proofs.Fed.{accesses_inside, are_told, found_told, seen_same}
use Rattle.event_timing.specs.Machines as theory
use Rattle.timing_bridge.specs.Designs as bridge

-- what a module asks is what its step holds
request_is : (r : Request) (a : Access) → bridge.seen_request r ≡ seen a → r ≡ access_request a
request_is r a e =
    let kind = same_kind r a e in
    let channel = same_channel r a e in
    let value = ap (λ (t : theory.Access). t.value) e in
    λ i. record { kind = kind i; channel = channel i; value = value i }

requests_are : (rs : List Request) (xs : List Access) → map bridge.seen_request rs ≡ map seen xs → rs ≡ map access_request xs
requests_are [] [] e = refl
requests_are [] (a ∷ xs) e = cc
requests_are (r ∷ rs) [] e = cc
requests_are (r ∷ rs) (a ∷ xs) e =
    let one = request_is r a cc in
    let later = requests_are rs xs cc in cc

-- the keys of all steps with a cycle are such keys
pub keys_timed : (h : Held) (keys : List TimedStep) → AreSortedKeys h.lanes keys → All (IsTimedKey h.lanes) keys
keys_timed h keys sorted = λ k d l.
    let places = All-permutation (IsTimed h) (timed_places h.lanes) (map step_place keys) sorted.all (all_timed h 0 (length h.lanes)) in
    let there = places k (step_place d) (let n = length-map keys step_place in omega arith) in
    let timed = subst (IsTimed h) (get_or-map step_place keys k d (step_place d) l) there in
    record { is_key = sorted.each k d l; timed = timed.less }

module _ (p : Plan) (h : Held) (s : IsSound (design p) h) (g : IsAgreed (design p) (lockstep_run p) p.cycles (core_of (design p) h)) where
  abbrev x : Core ModuleState
  x = core_of (design p) h

  module _ (key : TimedStep) (t : IsTimedKey h.lanes key) where
    abbrev found : Option (List Reply)
    found = replies_now h key.module (step_of h key.module key.step)

    inside : key.module < length p.design.modules
    inside = let a = t.is_key.there.owner in let b = s.lanes in omega arith

    -- all its replies are there
    pub all_found : found ≡ Some (logged_replies h key.module key.step)
    all_found = go found refl
      where
        go : (o : Option (List Reply)) → found ≡ o → o ≡ Some (unwrap_or o [])
        go None e =
            absurd (are_told p s g.marks key.module key.step t.is_key.there.step inside (g.time.answered_then key.module key.step t.timed)
            (g.time.there_then key.module key.step t.timed) e)
        go (Some rs) e = refl

    -- the step, and what the code found of it
    module _ (step : Step) (there : slice_get (lane_at h.lanes key.module).steps key.step ≡ Some step) where
      pub step_is : step_of h key.module key.step ≡ step
      step_is = get_or_from_slice_get (lane_at h.lanes key.module).steps key.step step no_step there

      pub step_inside : All (IsAccess h.channels) step.accesses
      step_inside = subst (λ (t : Step). All (IsAccess h.channels) t.accesses) step_is
          (accesses_inside p s g.marks key.module key.step t.is_key.there.step inside)

      abbrev told : List Reply
      told =
          replies_told (reply_told (drop step.first_query (log_at h.logs key.module).outcomes) (value_now h.channels)) 0 0 step.accesses

      -- the replies that are told are those
      told_is : told ≡ logged_replies h key.module key.step
      told_is =
          told_from (log_at h.logs key.module).outcomes (value_now h.channels) step.first_query step.accesses
          (logged_replies h key.module key.step) (ap (replies_now h key.module) (sym step_is) ∙ all_found)

      -- so what is logged by them is what the step gave
      pub logged_is : map (logged (step_doing key [])) (paired (map access_request step.accesses) told) ≡ logged_at h key
      logged_is =
          ap₂ (λ (u : Step) (qs : List Reply). map (logged (step_doing key [])) (paired (map access_request u.accesses) qs))
          (sym step_is) told_is

    step_logged : logged_at h key ≡ map (logged (core_step p x key.module key.step)) (core_step p x key.module key.step).exchanges
    step_logged =
        let cycle = t.is_key.cycle in
        let asked = sym (requests_are (requests_of p (key.module, x.state key.module key.step)) (step_of h key.module key.step).accesses
        (seen_same p s g.marks key.module key.step t.is_key.there.step)) in
        let told = found_told p s g.marks key.module key.step t.is_key.there.step all_found in
        λ i. map (logged (step_doing (record { cycle = cycle i; «module» = key.module; step = key.step }) [])) (paired (asked i) (told i))

  pub all_logged : (keys : List TimedStep) → All (IsTimedKey h.lanes) keys
      → flat_map (logged_at h) keys ≡ logged_in (steps_at p x (map step_place keys))
  all_logged [] t = refl
  all_logged (key ∷ keys) t =
      ap₂ (λ (as' bs : List LoggedAccess). as' ++ bs) (step_logged key (All-head (IsTimedKey h.lanes) key keys t))
      (all_logged keys (All-tail (IsTimedKey h.lanes) key keys t))

  pub log_is : FitsEngine p → IsFinal (design p) p.cycles x → (keys : List TimedStep) → AreSortedKeys h.lanes keys
      → flat_map (logged_at h) keys ≡ log_of p
  unfolding log_of
  log_is fits final keys sorted =
      let in_order = sorted_steps p p.cycles x g (map step_place keys) all_sorted in
      all_logged keys (keys_timed h keys sorted)
      ∙ ap logged_in (only_in_order p fits p.cycles x g final (steps_at p x (map step_place keys)) in_order ∙ reported_history p)
    where
      all_sorted : AreSorted p x (map step_place keys)
      all_sorted = record {
        all = subst (λ (n : ℕ). IsPermutation (flat_map (λ i. map (λ k. (i, k)) (range_with_len 0 (length (lane_at h.lanes i).cycles)))
            (range_with_len 0 n)) (map step_place keys)) s.lanes sorted.all;
        sorted = sorted.sorted;
      }

-- one access more
pub logged_more : (s : HistoryStep) (reply : ℕ → ℕ → Access → Reply) (place asked count : ℕ) (a : Access) (left : List Access)
    → (all log new : List LoggedAccess) → count ≡ cond (is_blocking a.kind) 0 1
    → all ≡ log ++ map (logged s) (paired (map access_request (a ∷ left)) (replies_told reply place asked (a ∷ left)))
    → new ≡ log ++ logged s (exchange_of a (reply place asked a)) ∷ []
    → all ≡ new ++ map (logged s) (paired (map access_request left) (replies_told reply (place + 1) (asked + count) left))
logged_more s reply place asked count a left all log new is so_far added =
    rw (added, is, counted (is_blocking a.kind)) (so_far ∙ sym (append_assoc log (logged s (exchange_of a (reply place asked a)) ∷ [])
    (map (logged s) (paired (map access_request left)
    (replies_told reply (place + 1) (asked + from_bool (not (is_blocking a.kind))) left)))))
  where
    counted : (b : Bool) → cond b 0 1 ≡ from_bool (not b)
    counted true = refl
    counted false = refl
