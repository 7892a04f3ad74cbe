-- The verified outcomes of a module are the first of the report's answers, whether the core is final or not.
use Rattle.std.proofs.Common.{◌≡◌, refl, sym, ap, ◌∙◌, ℕ, zero, suc, ◌+◌, ◌-◌, ◌<◌, ◌≤◌, inl, inr, Bool, true, false, ◌&&◌, ltb, List, []}
use Rattle.std.proofs.Common.{◌∷◌, ◌++◌, length, map, take, drop, get_or, Some, arith, append-nil, append_assoc}
use Rattle.std.proofs.Math.Seq.{take-add}
use Rattle.std.proofs.lemmas.Bool.{and_parts, both_ways, cases_Bool, cases_eq, cases_lt, ltb-true}
use Rattle.std.specs.List.{range_with_len}
use Rattle.sim_core.specs.{is_blocking, Access, Kind, Plan, Request, FitsEngine, ModuleState, HistoryStep, report, outcomes, steps_of}
use Rattle.sim_core.specs.{module_step, state, state_at, history, log_at, IsPrefix, steps, done, core_accesses, has_query, IsAgreed, design}
use Rattle.sim_core.specs.{lockstep_run, core_step, core_steps, outcome_when, outcomes_by, first_requests, emitted_of, seen, queries_in}
use Rattle.sim_core.specs.{possible_by, flags_by, are_among, core_of, IsSound, queries_before, first_of}
use Rattle.lockstep_defs.proofs.Agrees.{steps_of-suc}
use Rattle.event_timing.specs.Core.{Core}
use Rattle.event_timing.proofs.{Steps.done_more, Steps.done_same, Steps.done_past, OwnRuns.done_0}
use Rattle.timing_bridge.proofs.{Outcomes.verified_outcomes, Steps.steps_are}
use Rattle.engine_view.specs.Held.{Held}
use Rattle.engine_view.proofs.{Answered.among_if, Answered.queries_step, Emitted.queries_mono}
use Rattle.engine_report.proofs.Asking.{same_kind}
use Rattle.retime.proofs.Outcomes.{all_within}
use Rattle.sim_core.proofs.Reported.{answers_after, answers_next, next_recorded}
use Rattle.timing_bridge.specs.Designs as bridge
use Rattle.engine_view.specs.Held as held

-- ---- the outcomes of a step by the flags of recorded ones

outcome_back : (k : Kind) (o : Bool) → is_blocking k ≡ false → outcome_when k (possible_by k (Some o)) ≡ o
outcome_back k o e = grind arith

abbrev IsToldBy : List Access → List Request → Type 0
IsToldBy as' rs = (os : List Bool) → queries_in as' ≤ length os → outcomes_by rs (flags_by as' os) ≡ take (queries_in as') os

told_by : (as' : List Access) (rs : List Request) → map bridge.seen_request rs ≡ map seen as' → IsToldBy as' rs
told_by [] [] e os l = refl
told_by [] (r ∷ rs) e os l = cc
told_by (a ∷ as') [] e os l = cc
told_by (a ∷ as') (r ∷ rs) e os l =
    by (is_blocking a.kind) refl (same_kind r a cc) (told_by as' rs cc) os l
  where
    by : (b : Bool) → is_blocking a.kind ≡ b → r.kind ≡ a.kind → IsToldBy as' rs → IsToldBy (a ∷ as') (r ∷ rs)
    by true b kind rest os l = let later = rest os (grind arith) in grind arith
    by false b kind rest [] l = grind arith
    by false b kind rest (o ∷ os) l =
        let later = rest os (grind arith) in
        let back = outcome_back a.kind o b in grind arith

-- the first few of a list that begins with more of them
begin_with : (n more : ℕ) (os all rest : List Bool) → n ≤ more → all ≡ take more os ++ rest → IsPrefix (take n os) all
begin_with n more os all rest l e =
    let split : more ≡ n + (more - n) = omega arith in (
      take (more - n) (drop n os) ++ rest,
      e ∙ (ap (λ (k : ℕ). take k os ++ rest) split
          ∙ (ap (λ (front : List Bool). front ++ rest) (take-add n (more - n) os)
          ∙ append_assoc (take n os) (take (more - n) (drop n os)) rest)),
    )

-- ---- the steps with a cycle are the first of the history

module _ (p : Plan) (fits : FitsEngine p) (x : Core ModuleState) (g : IsAgreed (design p) (lockstep_run p) p.cycles x) (m : ℕ)
    (inside : m < length p.design.modules) where
  abbrev done_by : ℕ → ℕ
  done_by c = done (design p) (lockstep_run p) m c

  one_more : (c : ℕ) → done_by (suc c) ≤ suc (done_by c)
  one_more c =
      elim (cases_Bool (steps (design p) (lockstep_run p) c m)) [
        | inl s ↦ omega (arith, done_more (design p) (lockstep_run p) m c s)
        | inr s ↦ omega (arith, done_same (design p) (lockstep_run p) m c s)
      ]

  first_steps : (c : ℕ) → x.timed m ≤ done_by c → (later : List HistoryStep) × (steps_of m (history p c) ≡ core_steps p x m ++ later)
  first_steps zero l =
      let none : x.timed m ≡ 0 = omega (arith, done_0 (design p) (lockstep_run p) m) in (
        steps_of m (history p 0),
        ap (λ (n : ℕ). map (core_step p x m) (range_with_len 0 n) ++ steps_of m (history p 0)) (sym none),
      )
  first_steps (suc c) l =
      elim (cases_lt (done_by c) (x.timed m)) [
        | inl less ↦
            let all : done_by (suc c) ≡ x.timed m = omega (arith, one_more c) in (
              [],
              steps_are p fits p.cycles x g m inside (suc c) (omega arith)
                  ∙ (ap (λ (n : ℕ). map (core_step p x m) (range_with_len 0 n)) all ∙ sym (append-nil (core_steps p x m))),
            )
        | inr more ↦
            let (later, e) = first_steps c more in
            let now = module_step p c (state p c).contents (m, state_at p c m) in (
              later ++ now,
              steps_of-suc p c m inside
                  ∙ (ap (λ (l : List HistoryStep). l ++ now) e ∙ append_assoc (core_steps p x m) later now),
            )
      ]

  done_below : (n : ℕ) → n ≡ x.timed m → n ≤ done_by p.cycles
  done_below zero e = omega arith
  done_below (suc n) e =
      let l : n < x.timed m = omega arith in
      let past = done_past (design p) (lockstep_run p) m (x.cycle m n) p.cycles (g.time.steps_then m n l) (g.time.below m n l) in
      let is = g.time.done_then m n l in
      omega arith

  pub timed_first : (later : List HistoryStep) × (steps_of m (history p p.cycles) ≡ core_steps p x m ++ later)
  timed_first = first_steps p.cycles (done_below (x.timed m) refl)

-- ---- the verified outcomes

module _ (p : Plan) (h : Held) (fits : FitsEngine p) (s : IsSound (design p) h)
    (g : IsAgreed (design p) (lockstep_run p) p.cycles (core_of (design p) h)) (m : ℕ) (inside : m < length h.logs) where
  abbrev x : Core ModuleState
  x = core_of (design p) h

  abbrev outs : List Bool
  outs = (log_at h.logs m).outcomes

  abbrev sure : ℕ
  sure = (log_at h.logs m).verified

  abbrev first : ℕ
  first = first_of h m

  abbrev accesses : List Access
  accesses = (held.step_of h m first).accesses

  abbrev asks : ℕ → Bool
  asks k = has_query (core_accesses (design p) x m k)

  -- they are among the queries of the first so many steps, where no later one has a verified query
  none_later : (n : ℕ) → ((k : ℕ) → n ≤ k → k < emitted_of h m → x.verified m k ≡ true → asks k ≡ false) → sure ≤ queries_before h m n
  none_later n f = all_within (design p) h m s inside sure (queries_before h m n) (s.verified m inside) one
    where
      one : (k : ℕ) → k < emitted_of h m → asks k ≡ true → x.verified m k ≡ true
          → are_among (held.step_of h m k) (queries_before h m n) ≡ true
      one k l q v =
          elim (cases_lt k n) [
            | inl less ↦
                let number = s.first_query m k l in
                let step = queries_step h m k in
                let up = queries_mono h m (suc k) n less in
                among_if (held.step_of h m k) (queries_before h m n) (omega arith)
            | inr later ↦ absurd (both_ways (asks k) (f k later l v) q)
          ]

  -- the first step without a cycle has no verified query
  only_timed : (x.verified m first && asks first) ≡ false → IsPrefix (take sure outs) (get_or (report p).answers m [])
  only_timed few =
      let (later, there) = timed_first p fits x g m (let a = s.logs in omega arith) in
      begin_with sure (queries_before h m first) outs (get_or (report p).answers m []) (outcomes later)
      (none_later first plain)
      (answers_after p h s g m inside later there)
    where
      plain : (k : ℕ) → first ≤ k → k < emitted_of h m → x.verified m k ≡ true → asks k ≡ false
      plain k l u v =
          elim (cases_eq first k) [
            | inl e ↦ grind arith
            | inr e ↦ g.time.later_plain m k (omega arith) u v
          ]

  -- it has
  and_next : first < emitted_of h m → x.verified m first ≡ true → asks first ≡ true
      → IsPrefix (take sure outs) (get_or (report p).answers m [])
  and_next l v q =
      let (step, next, told) = verified_outcomes p fits p.cycles x g m l v q in
      let before = queries_before h m first in
      let count = queries_in accesses in
      let enough = next_recorded p h s g m inside l (g.time.verified_answered m first l v) in
      let here : outcomes (step ∷ []) ≡ take count (drop before outs) =
      told
      ∙ (ap (λ (n : ℕ). outcomes_by (first_requests p x m) (flags_by accesses (drop n outs))) (s.first_query m first l)
      ∙ told_by accesses (first_requests p x m) (s.accesses m first l) (drop before outs) enough) in
      begin_with sure (queries_before h m (suc first)) outs (get_or (report p).answers m []) (outcomes next.later)
      (none_later (suc first) (λ k less u w. g.time.later_plain m k (omega arith) u w))
      (answers_next p h s g m inside step next
      ∙ (ap (λ (os : List Bool). take before outs ++ (os ++ outcomes next.later)) here
      ∙ (sym (append_assoc (take before outs) (take count (drop before outs)) (outcomes next.later))
      ∙ ap (λ (os : List Bool). os ++ outcomes next.later)
      (sym (take-add before count outs) ∙ sym (ap (λ (n : ℕ). take n outs) (queries_step h m first))))))

  pub verified_begin : IsPrefix (take sure outs) (get_or (report p).answers m [])
  verified_begin =
      elim (cases_Bool (x.verified m first && asks first)) [
        | inl both ↦
            let (v, q) = and_parts (x.verified m first) (asks first) both in
            let there = (and_parts (ltb first (emitted_of h m)) (are_among (held.step_of h m first) sure) v).0 in
            and_next (ltb-true first (emitted_of h m) there) v q
        | inr none ↦ only_timed none
      ]
