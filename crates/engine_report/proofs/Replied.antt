-- The outcomes of timed steps are the theory's.
use Rattle.std.proofs.Common.{◌≡◌, refl, sym, ap, ap₂, ◌∙◌, ℕ, zero, suc, ◌<◌, ◌≤◌, Bool, true, false, cond, ltb, List, [], ◌∷◌, ◌++◌, map}
use Rattle.std.proofs.Common.{length, take, drop, get_or, Some, arith, inl, inr, append-nil, add-one}
use Rattle.std.proofs.{Math.Seq.take-add, lemmas.Bool.cases_lt, lemmas.Bool.and_parts, lemmas.List.take_all, lemmas.List.length-drop}
use Rattle.std.proofs.{lemmas.List.Concat.flat_map-append, lemmas.Option.slice_get-get_or, lemmas.Option.slice_get_past}
use Rattle.std.specs.List.{range_with_len}
use Rattle.engine_report.specs.{Access, Kind, is_blocking, Plan, Request, is_yes, requests_of, paired, outcomes, queries, HistoryStep}
use Rattle.engine_report.specs.{Exchange, reply_by, lane_at, no_log, log_at, core_values, core_tally, replies_of, pops_now, design}
use Rattle.engine_report.specs.{told_all, core_step, core_steps, step_of, no_step, emitted_of, seen, queries_in, possible_by, flags_by}
use Rattle.engine_report.specs.{are_among, core_of, IsSound, queries_before, timed_outcomes}
use Rattle.flow_word.specs.declared.access.Side.TheVariants.{Pop}
use Rattle.engine_view.specs.Held.{Held}
use Rattle.engine_view.proofs.{Knowing.timed_within, Answered.among_is, Answered.queries_step, Answered.queries_zero, Emitted.queries_mono}
use Rattle.engine_report.proofs.{Asking.same_kind, Loops.mapped_more}
use Rattle.event_timing.specs.Machines as theory
use Rattle.timing_bridge.specs.Designs as bridge

-- a query is told its outcome
told_outcome : (k : Kind) (o : Bool) (front : ℕ) → is_blocking k ≡ false → is_yes (reply_by k (possible_by k (Some o)) front) ≡ o
told_outcome k o front e = grind arith

abbrev outcomes_in : List Exchange → List Bool
outcomes_in xs = map (λ (x : Exchange). is_yes x.reply) (queries xs)

-- the outcomes of accesses are the first of a list
abbrev AreFirst : (ℕ → List ℕ) → (ℕ → ℕ) → List Request → List Access → List Bool → Type 0
AreFirst V t rs xs outs = outcomes_in (paired rs (told_all rs (replies_of V t (map seen xs) (flags_by xs outs)))) ≡ take
    (queries_in xs) outs

step_outcomes : (V : ℕ → List ℕ) (t : ℕ → ℕ) (rs : List Request) (xs : List Access) → map bridge.seen_request rs ≡ map seen xs
    → (outs : List Bool)
    → queries_in xs ≤ length outs → AreFirst V t rs xs outs
step_outcomes V t [] [] e outs l = refl
step_outcomes V t (r ∷ rs) (a ∷ xs) e [] l =
    let kind = same_kind r a (cc) in
    let here = step_outcomes V t rs xs (cc) [] in
    grind arith
step_outcomes V t (r ∷ rs) (a ∷ xs) e (o ∷ outs) l =
    let kind = same_kind r a (cc) in
    let here = step_outcomes V t rs xs (cc) (o ∷ outs) in
    let later = step_outcomes V t rs xs (cc) outs in
    let found = cond (pops_now (seen a) (possible_by a.kind (Some o))) (get_or (V a.channel) (t a.channel) 0) 0 in
    let own = told_outcome a.kind o found in
    grind arith
step_outcomes V t rs xs e outs l = absurd cc

-- ---- of all timed steps

-- the queries of a timed step are recorded
recorded : (p : Plan) (h : Held) → IsSound (design p) h
    → ((m k : ℕ) → k < (core_of (design p) h).timed m → (core_of (design p) h).verified m k ≡ true)
    → (i k : ℕ) → k < length (lane_at h.lanes i).cycles → i < length h.logs
    → queries_in (step_of h i k).accesses ≤ length (drop (step_of h i k).first_query (log_at h.logs i).outcomes)
recorded p h s verified i k l inside =
    let log = log_at h.logs i in
    let step = step_of h i k in
    let among = (and_parts (ltb k (emitted_of h i)) (are_among step log.verified) (verified i k l)).1 in
    let sound = s.sound_logs i no_log inside in
    let rest = length-drop step.first_query log.outcomes in
    elim (among_is step log.verified among) [ inl none ↦ omega arith | inr few ↦ omega arith ]

step_of_core : (p : Plan) (h : Held) → IsSound (design p) h → (i k : ℕ) → k < emitted_of h i
    → queries_in (step_of h i k).accesses ≤ length (drop (step_of h i k).first_query (log_at h.logs i).outcomes)
    → outcomes_in (core_step p (core_of (design p) h) i k).exchanges ≡ take (queries_in (step_of h i k).accesses)
    (drop (step_of h i k).first_query (log_at h.logs i).outcomes)
step_of_core p h s i k l few =
    let d = design p in
    let x = core_of d h in
    let rs = requests_of p (i, x.state i k) in
    let e = s.accesses i k l in
    ap (λ (as' : List theory.Access). outcomes_in
    (paired rs (told_all rs (replies_of (core_values d x) (λ ch. core_tally d x i Pop ch k) as' (x.flags i k))))) e
    ∙ step_outcomes (core_values d x) (λ ch. core_tally d x i Pop ch k) rs (step_of h i k).accesses e
    (drop (step_of h i k).first_query (log_at h.logs i).outcomes) few

pub front : (p : Plan) (h : Held) → IsSound (design p) h
    → ((m k : ℕ) → k < (core_of (design p) h).timed m → (core_of (design p) h).verified m k ≡ true)
    → (i k : ℕ) → k ≤ length (lane_at h.lanes i).cycles → i < length h.logs
    → outcomes (map (core_step p (core_of (design p) h) i) (range_with_len 0 k)) ≡ take (queries_before h i k) (log_at h.logs i).outcomes
front p h s verified i zero l inside = rw (queries_zero h i) refl
front p h s verified i (suc k) l inside =
    let x = core_of (design p) h in
    let outs = (log_at h.logs i).outcomes in
    let step = step_of h i k in
    let less : k < emitted_of h i = let w = timed_within (design p) h s i in omega arith in
    let one = step_of_core p h s i k less (recorded p h s verified i k (omega arith) inside) in
    let first = s.first_query i k less in
    ap (λ (n : ℕ). outcomes (map (core_step p x i) (range_with_len 0 n))) (sym (add-one k))
    ∙ (ap outcomes (mapped_more (core_step p x i) k)
    ∙ (flat_map-append (λ (e : HistoryStep). outcomes_in e.exchanges) (map (core_step p x i) (range_with_len 0 k)) (core_step p x i k ∷ [])
    ∙ (ap₂ (λ (a b : List Bool). a ++ b) (front p h s verified i k (omega arith) inside)
    (append-nil (outcomes_in (core_step p x i k).exchanges)
    ∙ (one ∙ ap (λ (n : ℕ). take (queries_in step.accesses) (drop n outs)) first))
    ∙ (sym (take-add (queries_before h i k) (queries_in step.accesses) outs)
    ∙ sym (ap (λ (n : ℕ). take n outs) (queries_step h i k))))))

pub outcomes_are : (p : Plan) (h : Held) → IsSound (design p) h
    → ((m k : ℕ) → k < (core_of (design p) h).timed m → (core_of (design p) h).verified m k ≡ true)
    → (i : ℕ) → i < length h.logs → timed_outcomes h.lanes h.logs i ≡ outcomes (core_steps p (core_of (design p) h) i)
outcomes_are p h s verified i inside =
    let lane = lane_at h.lanes i in
    let k = length lane.cycles in
    let outs = (log_at h.logs i).outcomes in
    let all = front p h s verified i k (omega arith) inside in
    elim (cases_lt k (length lane.steps)) [
      | inl less ↦
          rw (slice_get-get_or lane.steps k no_step less) (ap (λ (n : ℕ). take n outs) (s.first_query i k less) ∙ sym all)
      | inr more ↦
          let whole = s.recorded i inside in
          let few = queries_mono h i whole.steps k (let w = whole.within in omega arith) in
          let n = whole.all in
          rw (slice_get_past lane.steps k more) (sym (take_all (queries_before h i k) outs (omega arith)) ∙ sym all)
    ]
