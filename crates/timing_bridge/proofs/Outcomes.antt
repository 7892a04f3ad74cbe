-- A module's next step in the history, and the outcomes of its queries there.
use Rattle.std.proofs.Common.{◌≡◌, ℕ, zero, suc, ◌+◌, ◌-◌, ◌<◌, Bool, true, false, not, cond, List, [], ◌∷◌, ◌++◌, map, length, refl, sym}
use Rattle.std.proofs.Common.{◌∙◌, ap, ap₂, arith, append_assoc, Some}
use Rattle.std.proofs.{lemmas.List.append-nil, lemmas.List.Elements.filter-append}
use Rattle.std.specs.List.{AllByRecursion, range_with_len}
use Rattle.timing_bridge.specs.{Kind, side_of, is_blocking, Plan, Element, ModuleState, Request, FitsEngine, is_yes, steps_of, queries}
use Rattle.timing_bridge.specs.{outcomes, HistoryStep, Exchange, can_take, reply, reply_by, front, contents_of, requests_of, answered}
use Rattle.timing_bridge.specs.{steps_in, state, state_at, history, ready, own, candidate, MayAnswer, MayEarliest, new_flags, core_reply}
use Rattle.timing_bridge.specs.{core_accesses, has_query, view, IsAgreed, IsStepAt, possible_all, design, lockstep_run, seen_request}
use Rattle.timing_bridge.specs.{core_step, core_steps, outcome_when, outcomes_by, first_requests, IsNextInHistory}
use Rattle.lockstep_defs.proofs.{Settled.history-suc, Agrees.steps_of-suc}
use Rattle.event_timing.specs.Core.{Core}
use Rattle.event_timing.proofs.{Agreement.answer_found, Agreement.earliest_found, Answering.first_emitted, Candidate.candidate_done}
use Rattle.event_timing.proofs.{Candidate.candidate_steps, Fronts.agrees, OwnRuns.rest_own, OwnRuns.follows, Standing.step_ready}
use Rattle.timing_bridge.proofs.{Alike.Alike, Alike.alike, Steps.done_at, Steps.a_step, Steps.steps_are}
use Rattle.timing_bridge.proofs.History.{plan_is_design, run_is_history}

-- ---- outcomes by what is possible

outcome_same : (k : Kind) (q : Bool) (v : ℕ) → is_yes (reply_by k q v) ≡ outcome_when k q
outcome_same k q v = grind arith

-- the outcomes in a step of the history are those by what is possible in its clock
outcomes_same : (p : Plan) (c : ℕ) (rs : List Request) → AllByRecursion (Alike p c) rs
    → map (λ x. is_yes x.reply) (queries (map (answered p c (state p c).contents) rs))
    ≡ outcomes_by rs (possible_all (design p) (lockstep_run p) c (map seen_request rs))
unfolding reply
outcomes_same p c [] h = refl
outcomes_same p c (r ∷ rs) h =
    let cs = (state p c).contents in
    let rest = outcomes_same p c rs h.1 in
    let q = can_take p c cs (side_of r.kind) r.channel in
    let same = outcome_same r.kind q (front (contents_of cs r.channel)) ∙ ap (outcome_when r.kind) (sym (h.0).possible) in
    by_kind (is_blocking r.kind) (answered p c cs r) (queries (map (answered p c cs) rs)) _ _ same rest
  where
    by_kind : (blocks : Bool) (x : Exchange) (xs : List Exchange) (b : Bool) (bs : List Bool) → is_yes x.reply ≡ b
        → map (λ x. is_yes x.reply) xs ≡ bs → map (λ x. is_yes x.reply) (cond (not blocks) (x ∷ xs) xs) ≡ cond blocks bs (b ∷ bs)
    by_kind true x xs b bs e f = f
    by_kind false x xs b bs e f = ap₂ (λ (y : Bool) (ys : List Bool). y ∷ ys) e f

-- ---- the next step

requests_asked : (p : Plan) (c : ℕ) (cs : List (List Element)) (rs : List Request) → map (λ e. e.request) (map (answered p c cs) rs) ≡ rs
requests_asked p c cs [] = refl
requests_asked p c cs (r ∷ rs) = ap (λ (l : List Request). r ∷ l) (requests_asked p c cs rs)

-- a history only grows
history_more : (p : Plan) (c n : ℕ) → (more : List HistoryStep) × (history p (n + c) ≡ history p c ++ more)
history_more p c zero = let z : 0 + c ≡ c = omega arith in ([], ap (history p) z ∙ sym (append-nil _))
history_more p c (suc n) =
    let (more, e) = history_more p c n in
    let z : suc n + c ≡ suc (n + c) = omega arith in
    let new = steps_in p (n + c) (state p (n + c)) in (
      more ++ new,
      ap (history p) z
          ∙ (history-suc p (n + c) ∙ (ap (λ (l : List HistoryStep). l ++ new) e ∙ append_assoc (history p c) more new)),
    )

module _ (p : Plan) (fits : FitsEngine p) (limit : ℕ) (x : Core ModuleState) (g : IsAgreed (design p) (lockstep_run p) limit x) (i : ℕ)
    (first : x.timed i < x.emitted i) where
  inside : i < length p.design.modules
  inside = grind (arith, g.marks.inside i)

  -- in the clock of that step the module stands where the core has it
  stands : (c : ℕ) → IsStepAt (design p) (lockstep_run p) i (x.timed i) c → state_at p c i ≡ x.state i (x.timed i)
  stands c s =
      let d = design p in
      let w = lockstep_run p in
      let is = plan_is_design p fits in
      let hist = run_is_history p fits in
      let a = agrees d w limit x g.marks g.time in
      let rested = rest_own d w is hist i (core_reply d x i) c (follows d w (view d x) a i c (omega (arith, s.1))) in
      step_ready d w is hist i c s.0
      ∙ (ap (ready d i) (rested ∙ ap (own d i (core_reply d x i)) s.1)
      ∙ sym (g.marks.own_step i (x.timed i) first))

  next_at : (c : ℕ) → IsStepAt (design p) (lockstep_run p) i (x.timed i) c
      → steps_of i (history p (suc c)) ≡ core_steps p x i ++ done_at p c i ∷ []
  next_at c s =
      steps_of-suc p c i inside
      ∙ ap₂ (λ (a b : List HistoryStep). a ++ b)
      (steps_are p fits limit x g i inside c (omega (arith, s.1)) ∙ ap (λ (n : ℕ). map (core_step p x i) (range_with_len 0 n)) s.1)
      (a_step p fits c i s.0)

  -- the next step is the one that the history does in this clock
  pub next_step : (c later : ℕ) → IsStepAt (design p) (lockstep_run p) i (x.timed i) c → c < later
      → IsNextInHistory p x i later (done_at p c i)
  next_step c later s l =
      let (more, e) = history_more p (suc c) (later - suc c) in
      let z : (later - suc c) + suc c ≡ later = omega arith in
      record {
        later = steps_of i more;
        there =
            ap (steps_of i) (sym (ap (history p) z) ∙ e)
            ∙ (filter-append _ (history p (suc c)) more
            ∙ (ap (λ (a : List HistoryStep). a ++ steps_of i more) (next_at c s)
            ∙ append_assoc (core_steps p x i) (done_at p c i ∷ []) (steps_of i more)));
        requests = requests_asked p c (state p c).contents (requests_of p (i, state_at p c i))
            ∙ ap (λ (t : ModuleState). requests_of p (i, t)) (stands c s);
      }

  -- and its outcomes are those by what is possible then
  pub next_outcomes : (c : ℕ) → IsStepAt (design p) (lockstep_run p) i (x.timed i) c
      → outcomes (done_at p c i ∷ [])
      ≡ outcomes_by (first_requests p x i) (possible_all (design p) (lockstep_run p) c (core_accesses (design p) x i (x.timed i)))
  next_outcomes c s =
      append-nil _
      ∙ (outcomes_same p c (requests_of p (i, state_at p c i)) (alike p fits c i (state_at p c i))
      ∙ ap (λ (t : ModuleState). outcomes_by (requests_of p (i, t))
      (possible_all (design p) (lockstep_run p) c (map seen_request (requests_of p (i, t))))) (stands c s))

  -- the verified outcomes of the first step without a cycle
  pub verified_outcomes : x.verified i (x.timed i) ≡ true → has_query (core_accesses (design p) x i (x.timed i)) ≡ true
      → (s : HistoryStep) × IsNextInHistory p x i limit s × (outcomes (s ∷ []) ≡ outcomes_by (first_requests p x i) (x.flags i (x.timed i)))
  verified_outcomes v q =
      let (c, l, s) = g.time.first_happens i first v q in (
        done_at p c i,
        next_step c limit s l,
        next_outcomes c s
            ∙ ap (outcomes_by (first_requests p x i)) (sym (g.time.first_flags i first v c s.0 s.1)),
      )

module _ (p : Plan) (fits : FitsEngine p) (limit : ℕ) (x : Core ModuleState) (g : IsAgreed (design p) (lockstep_run p) limit x)
    (i c : ℕ) where
  found_at : candidate (design p) (view (design p) x) i ≡ Some c → IsStepAt (design p) (lockstep_run p) i (x.timed i) c
  found_at e =
      let d = design p in
      let w = lockstep_run p in
      let a = agrees d w limit x g.marks g.time in (
        candidate_steps d w (plan_is_design p fits) (run_is_history p fits) (view d x) a i c e,
        candidate_done d w
            (plan_is_design p fits) (run_is_history p fits) (view d x) a i c e,
      )

  -- the step of a determined candidate
  pub determined_step : candidate (design p) (view (design p) x) i ≡ Some c
      → (s : HistoryStep) × (s.clock ≡ c) × IsNextInHistory p x i (suc c) s
  determined_step e = (
    done_at p c i,
    refl,
    next_step p fits limit x g i (first_emitted (design p) x i c e) c (suc c) (found_at e)
        (omega arith),
  )

  -- what is found for its queries, by an Answer or by an Earliest
  found_outcomes : candidate (design p) (view (design p) x) i ≡ Some c → c < limit
      → new_flags (design p) x i c ≡ possible_all (design p) (lockstep_run p) c (core_accesses (design p) x i (x.timed i))
      → (s : HistoryStep) × (s.clock ≡ c) × IsNextInHistory p x i limit s
      × (outcomes (s ∷ []) ≡ outcomes_by (first_requests p x i) (new_flags (design p) x i c))
  found_outcomes e l f =
      let first = first_emitted (design p) x i c e in
      let s = found_at e in (
        done_at p c i,
        refl,
        next_step p fits limit x g i first c limit s l,
        next_outcomes p fits limit x g i first c s
            ∙ ap (outcomes_by (first_requests p x i)) (sym f),
      )

  pub answered_outcomes : MayAnswer (design p) limit x i c
      → (s : HistoryStep) × (s.clock ≡ c) × IsNextInHistory p x i limit s
      × (outcomes (s ∷ []) ≡ outcomes_by (first_requests p x i) (new_flags (design p) x i c))
  answered_outcomes r =
      found_outcomes r.determined.at r.determined.below
      (answer_found (design p) (lockstep_run p) (plan_is_design p fits) (run_is_history p fits) limit x g i c r)

  pub earliest_outcomes : MayEarliest (design p) limit x i c
      → (s : HistoryStep) × (s.clock ≡ c) × IsNextInHistory p x i limit s
      × (outcomes (s ∷ []) ≡ outcomes_by (first_requests p x i) (new_flags (design p) x i c))
  earliest_outcomes r =
      found_outcomes r.open_step.determined.at r.open_step.determined.below
      (earliest_found (design p) (lockstep_run p) (plan_is_design p fits) (run_is_history p fits) limit x g i c r)
