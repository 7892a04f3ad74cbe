-- The answers of the report are the verified outcomes in the log of a final core.
use Rattle.std.proofs.Common.{◌≡◌, sym, ap, ◌∙◌, ℕ, ◌<◌, ◌≤◌, inl, inr, Bool, true, ltb, List, [], ◌∷◌, ◌++◌, length, map, take, drop}
use Rattle.std.proofs.Common.{get_or, arith}
use Rattle.std.proofs.{Math.Seq.take-length, lemmas.Bool.and_parts, lemmas.List.Concat.flat_map-append}
use Rattle.std.proofs.lemmas.List.{length-drop, length-map, get_or-map, same_lists}
use Rattle.std.proofs.lemmas.List.FromFn.{get_or-map-range_with_len, length-map-range_with_len}
use Rattle.std.specs.List.{range_with_len}
use Rattle.sim_core.specs.{Access, Plan, Report, FitsEngine, clock_of, ModuleState, HistoryStep, Exchange, history, is_yes, verdict, report}
use Rattle.sim_core.specs.{outcomes, queries, steps_of, Log, no_log, log_at, IsFinal, IsAgreed, AllVerified, design, lockstep_run}
use Rattle.sim_core.specs.{core_steps, IsNextInHistory, step_of, emitted_of, queries_in, are_among, core_of, IsSound, queries_before}
use Rattle.sim_core.specs.{first_of}
use Rattle.event_timing.specs.Core.{Core}
use Rattle.timing_bridge.proofs.{History.plan_is_design, History.run_is_history, Reports.every_report}
use Rattle.timing_bridge.proofs.InOrder.{history_in_order, reported_history}
use Rattle.engine_view.specs.Held.{Held}
use Rattle.engine_view.proofs.Answered.{among_is}
use Rattle.engine_report.proofs.Replied.{front}
use Rattle.retime.proofs.{Outcomes.sure_all, Recorded.verified_are_timed}

-- the outcomes of a module's steps with a cycle
pub steps_told : (p : Plan) (h : Held) → IsSound (design p) h
    → IsAgreed (design p) (lockstep_run p) p.cycles (core_of (design p) h)
    → (m : ℕ) → m < length h.logs
    → outcomes (core_steps p (core_of (design p) h) m) ≡ take (queries_before h m (first_of h m)) (log_at h.logs m).outcomes
steps_told p h s g m l = front p h s g.time.verified_then m (first_of h m) (omega arith) l

-- the report's answers of a module are the outcomes in its history
pub answers_of_history : (p : Plan) (m : ℕ) → m < length p.design.modules
    → get_or (report p).answers m [] ≡ outcomes (steps_of m (history p p.cycles))
unfolding report
answers_of_history p m l =
    get_or-map-range_with_len (λ (i : ℕ). outcomes (steps_of i (history p (clock_of (verdict p))))) 0 (length p.design.modules) m m [] l
    (omega arith)
    ∙ ap (λ (hs : List HistoryStep). outcomes (steps_of m hs)) (sym (reported_history p))

outcomes_both : (one more : List HistoryStep) → outcomes (one ++ more) ≡ outcomes one ++ outcomes more
outcomes_both one more = flat_map-append (λ (t : HistoryStep). map (λ (y : Exchange). is_yes y.reply) (queries t.exchanges)) one more

module _ (p : Plan) (h : Held) (s : IsSound (design p) h) (g : IsAgreed (design p) (lockstep_run p) p.cycles (core_of (design p) h))
    (m : ℕ) (inside : m < length h.logs) where
  abbrev outs : List Bool
  outs = (log_at h.logs m).outcomes

  abbrev before : ℕ
  before = queries_before h m (first_of h m)

  abbrev accesses : List Access
  accesses = (step_of h m (first_of h m)).accesses

  -- where the history goes on after the steps with a cycle, so do the report's answers after their outcomes
  pub answers_after : (later : List HistoryStep) → steps_of m (history p p.cycles) ≡ core_steps p (core_of (design p) h) m ++ later
      → get_or (report p).answers m [] ≡ take before outs ++ outcomes later
  answers_after later there =
      answers_of_history p m (let a = s.logs in omega arith)
      ∙ (ap outcomes there
      ∙ (outcomes_both (core_steps p (core_of (design p) h) m) later
      ∙ ap (λ (os : List Bool). os ++ outcomes later) (steps_told p h s g m inside)))

  pub answers_next : (step : HistoryStep) (next : IsNextInHistory p (core_of (design p) h) m p.cycles step)
      → get_or (report p).answers m [] ≡ take before outs ++ (outcomes (step ∷ []) ++ outcomes next.later)
  answers_next step next =
      answers_after (step ∷ next.later) next.there
      ∙ ap (λ (os : List Bool). take before outs ++ os) (outcomes_both (step ∷ []) next.later)

  -- the outcomes of the first step without a cycle, where they are recorded
  pub next_recorded : first_of h m < emitted_of h m → (core_of (design p) h).answered m (first_of h m) ≡ true
      → queries_in accesses ≤ length (drop before outs)
  next_recorded emitted has =
      let step = step_of h m (first_of h m) in
      let first = s.first_query m (first_of h m) emitted in
      let count = length-drop before outs in
      elim (among_is step (length outs) (and_parts (ltb (first_of h m) (emitted_of h m)) (are_among step (length outs)) has).1) [
        | inl z ↦ omega arith
        | inr z ↦ omega arith
      ]

module _ (p : Plan) (h : Held) (fits : FitsEngine p) (s : IsSound (design p) h)
    (g : IsAgreed (design p) (lockstep_run p) p.cycles (core_of (design p) h))
    (final : IsFinal (design p) p.cycles (core_of (design p) h)) where
  abbrev x : Core ModuleState
  x = core_of (design p) h

  abbrev verified_of : Log → List Bool
  verified_of log = take log.verified log.outcomes

  one : (m : ℕ) → m < length h.logs → outcomes (core_steps p x m) ≡ verified_of (log_at h.logs m)
  one m l =
      let timed = verified_are_timed (design p) (lockstep_run p) p.cycles h
      (record { design = plan_is_design p fits; history = run_is_history p fits; sound = s; agreed = g; final = final }) m l in
      steps_told p h s g m l ∙ ap (λ (n : ℕ). take n (log_at h.logs m).outcomes) (sym timed)

  pub answers_are : (report p).answers ≡ map (λ (l : Log). take l.verified l.outcomes) h.logs
  answers_are =
      let is = every_report p fits x g final (history p p.cycles) (history_in_order p fits p.cycles x g final) in
      let count = length-map-range_with_len (λ (i : ℕ). outcomes (core_steps p x i)) 0 (length p.design.modules) in
      let logs = length-map h.logs verified_of in
      let same = s.logs in
      ap (λ (r : Report). r.answers) is
      ∙ same_lists (map (λ (i : ℕ). outcomes (core_steps p x i)) (range_with_len 0 (length p.design.modules))) (map verified_of h.logs)
      (omega arith)
      (λ m d l.
      get_or-map-range_with_len (λ (i : ℕ). outcomes (core_steps p x i)) 0 (length p.design.modules) m m d (omega arith) (omega arith)
      ∙ (one m (omega arith)
      ∙ sym (get_or-map verified_of h.logs m no_log d (omega arith))))

-- where none is assumed all outcomes are verified
pub all_verified : (p : Plan) (h : Held) → IsSound (design p) h → AllVerified (core_of (design p) h)
    → map (λ (l : Log). take l.verified l.outcomes) h.logs ≡ map (λ (l : Log). l.outcomes) h.logs
all_verified p h s f =
    let some = length-map h.logs (λ (l : Log). take l.verified l.outcomes) in
    let all = length-map h.logs (λ (l : Log). l.outcomes) in
    same_lists (map (λ (l : Log). take l.verified l.outcomes) h.logs) (map (λ (l : Log). l.outcomes) h.logs) (omega arith)
    (λ m d l.
    get_or-map (λ (log : Log). take log.verified log.outcomes) h.logs m no_log d (omega arith)
    ∙ (ap (λ (n : ℕ). take n (log_at h.logs m).outcomes) (sure_all (design p) h m s (omega arith) (λ k u q a. f m k u a))
    ∙ (take-length (log_at h.logs m).outcomes
    ∙ sym (get_or-map (λ (log : Log). log.outcomes) h.logs m no_log d (omega arith)))))
