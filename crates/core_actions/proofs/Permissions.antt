-- What the calls that ask for a cause find, of a core of a plan.
use Rattle.std.proofs.Common.{◌≡◌, sym, ap, ◌∙◌, ◌↔◌, ℕ, suc, ◌-◌, ◌<◌, ◌≤◌, inl, inr, true, length, Option, None, Some, is_none, arith}
use Rattle.std.proofs.{lemmas.Bool.Decides.nat_tests, lemmas.Bool.cases_lt}
use Rattle.std.proofs.lemmas.Option.{slice_get-get_or, slice_get_past, slice_get_within, get_or_from_slice_get}
use Rattle.std.specs.Prelude.{position, option_map, option_and_then, slice_get, IsSomeAnd, Result, Ok, Err, OnOk, IfErr, is_ok}
use Rattle.std.specs.Result.{result_err}
use Rattle.core_actions.specs.{Step, FitsEngine, ModuleState, lane_at, log_at, first_waiting, determined, is_waiting, Design, IsDesign}
use Rattle.core_actions.specs.{first_accesses, candidate, view, IsDetermined, IsAgreed, may_run, may_assign, design, lockstep_run, place_of}
use Rattle.core_actions.specs.{IsSound, first_of, no_step as empty_step, step_of, emitted_of, Action, Cause, IsPermitted, cause_of}
use Rattle.core_actions.specs.{cycle_causes, first_place, first_some, is_unverified, acting_module, waiting_cause, first_missing, value_now}
use Rattle.core_actions.specs.{CoreView, theory_of}
use Rattle.core_actions.specs.declared.actions.Action.TheVariants.{Run, Assign, Answer, Earliest}
use Rattle.event_timing.specs.Core.{Core}
use Rattle.event_timing.proofs.Deciding.{run_decided, assign_decided, answer_decided, earliest_decided}
use Rattle.event_timing.proofs.Answering.{first_emitted}
use Rattle.timing_bridge.proofs.History.{plan_is_design}
use Rattle.engine_view.specs.Held.{Held}
use Rattle.engine_view.proofs.Bounds.{candidate_is}
use Rattle.core_actions.specs.declared.actions.Cause.TheVariants as cause
use Rattle.core_actions.proofs.Causing as causing
use Rattle.core_actions.proofs.Looking as looking

-- ---- answers

pub ok_is : {A E : Type 0} (r : Result A E) (o : Option E) → result_err r ≡ o → is_ok r ≡ is_none o
ok_is {A} {E} r o e = grind arith

-- ---- a core

module _ (v : CoreView) (fits : FitsEngine v.plan) (sound : IsSound (design v.plan) v.held) where
  abbrev d : Design ModuleState
  d = design v.plan

  abbrev h : Held
  h = v.held

  abbrev x : Core ModuleState
  x = theory_of v

  abbrev limit : ℕ
  limit = v.plan.cycles

  is_design : IsDesign d
  is_design = plan_is_design v.plan fits

  module _ (agreed : IsAgreed d (lockstep_run v.plan) limit x) where
    pub run_is : (m : ℕ) → m < length v.plan.design.modules → is_none (cause_of d limit x (Run m)) ≡ may_run d x m
    run_is m l = causing.run_none d limit x m l (λ k q. agreed.marks.fit m k q) (looking.are_plain d h sound)

    pub assign_is : (m : ℕ) → is_none (cause_of d limit x (Assign m)) ≡ may_assign d limit x m
    assign_is m = causing.assign_none d limit x m (looking.are_plain d h sound)

    decided : (a : Action) → acting_module a < length v.plan.design.modules
        → (is_none (cause_of d limit x a) ≡ true) ↔ IsPermitted d limit x a
    decided (Run m) l = rw (run_is m l) (run_decided d x m)
    decided (Assign m) l = rw (assign_is m) (assign_decided d limit x m)
    decided (Answer m) l = rw (causing.answer_none d limit x m) (answer_decided d limit x m)
    decided (Earliest m) l = rw (causing.earliest_none d limit x m) (earliest_decided d limit x agreed.marks.inside m)

    module _ {A : Type 0} (a : Action) (l : acting_module a < length v.plan.design.modules) where
      pub ok_permitted : (r : Result A Cause) → result_err r ≡ cause_of d limit x a → OnOk r (IsPermitted d limit x a)
      ok_permitted (Ok t) e = (decided a l).0 (ap (λ (o : Option Cause). is_none o) (sym e))
      ok_permitted (Err c) e = tt

      pub err_refused : (r : Result A Cause) → result_err r ≡ cause_of d limit x a → IfErr r (λ c. IsPermitted d limit x a → ⊥)
      err_refused (Ok t) e = tt
      err_refused (Err c) e = λ may.
          let none = (decided a l).1 may in
          let some = ap (λ (o : Option Cause). is_none o) e in absurd cc

  module _ (m : ℕ) (own : m < length v.plan.design.modules) where
    -- ---- the cycle of the first step without one

    waits_there : (i : ℕ) → first_waiting h.lanes h.channels m ≡ Some i
        → (first_of h m < emitted_of h m)
        × (position (is_waiting h.lanes h.channels) (step_of h m (first_of h m)).accesses ≡ Some i)
    unfolding first_waiting
    waits_there i e =
        elim (cases_lt (first_of h m) (emitted_of h m)) [
          | inl l ↦ (l, sym (ap found (slice_get-get_or (lane_at h.lanes m).steps (first_of h m) empty_step l)) ∙ e)
          | inr l ↦ let z = sym (ap found (slice_get_past (lane_at h.lanes m).steps (first_of h m) l)) ∙ e in cc
        ]
      where
        found : Option Step → Option ℕ
        found o = option_and_then (λ step. position (is_waiting h.lanes h.channels) step.accesses) o

    pub next_waits : (i : ℕ) → first_waiting h.lanes h.channels m ≡ Some i
        → Some (cause.Undetermined (first_place x m) i) ≡ first_some (cycle_causes d limit x m)
    next_waits i e =
        let (l, at) = waits_there i e in
        let held = looking.held_is d is_design h sound m l in grind (arith, nat_tests)

    found_at : (c : ℕ) → determined h.lanes h.channels m ≡ Some c → candidate d (view d x) m ≡ Some c
    found_at c e = sym (candidate_is d is_design h sound m) ∙ e

    pub next_beyond : (o : Option ℕ) → o ≡ determined h.lanes h.channels m → IsSomeAnd o (λ c. limit ≤ c)
        → Some (cause.AtLimit (first_place x m)) ≡ first_some (cycle_causes d limit x m)
    next_beyond None e f = absurd f
    next_beyond (Some c) e l =
        let at = found_at c (sym e) in
        let step = first_emitted d x m c at in
        let held = causing.held_not d limit x m c at in grind (arith, nat_tests)

    pub next_at : (c : ℕ) → determined h.lanes h.channels m ≡ Some c → c < limit → IsDetermined d limit x m c
    next_at c e l = record { at = found_at c e; below = l }

    pub next_found : (c : ℕ) → IsDetermined d limit x m c → None ≡ first_some (cycle_causes d limit x m)
    next_found c n =
        let at = n.at in
        let below = n.below in
        let step = first_emitted d x m c n.at in
        let held = causing.held_not d limit x m c n.at in grind (arith, nat_tests)

    -- ---- its queries

    pub verified_is : first_of h m < emitted_of h m
        → is_none (position (is_unverified x m) (first_accesses (view d x) m)) ≡ x.verified m (x.timed m)
    verified_is less = causing.verified_none d limit x m (looking.are_plain d h sound) less

    pub first_is : first_of h m < emitted_of h m → (step : Step) → slice_get (lane_at h.lanes m).steps (first_of h m) ≡ Some step
        → looking.IsFirst d h m step
    first_is less = looking.first_is d h sound is_design m less (let e = sound.logs in omega arith)

    -- ---- the replies to its newest step

    module _ (last : ℕ) (step : Step) (there : slice_get (lane_at h.lanes m).steps last ≡ Some step) where
      last_is : step_of h m last ≡ step
      last_is = get_or_from_slice_get (lane_at h.lanes m).steps last step empty_step there

      last_within : last < emitted_of h m
      last_within = slice_get_within (lane_at h.lanes m).steps last step there

      pub waits_at : last ≡ emitted_of h m - 1
          → option_map (cause.Waiting (place_of m last))
          (first_missing (log_at h.logs m).outcomes (value_now h.channels) step.first_query step.accesses)
          ≡ waiting_cause d x m (emitted_of h m)
      waits_at e =
          let l = last_within in
          let n : emitted_of h m ≡ suc last = omega arith in
          sym (ap (waiting_cause d x m) n
          ∙ ap (option_map (cause.Waiting (place_of m last)))
          (sym (looking.missing_reply d h sound m last l (let e = sound.logs in omega arith) (let e = sound.lanes in omega arith))
          ∙ ap (λ (t : Step). first_missing (log_at h.logs m).outcomes (value_now h.channels) t.first_query t.accesses) last_is))
