-- The report of a final core is the plan's.
use Rattle.std.proofs.lemmas.Bool.Decides.{nat_tests}
use Rattle.std.proofs.Common.{◌≡◌, ℕ, zero, suc, ◌+◌, ◌≤◌, ◌<◌, List, [], ◌∷◌, map, length, true, false, ◌||◌, refl, sym, ◌∙◌, ap, ap₂}
use Rattle.std.proofs.Common.{arith, inl, inr, Some, None}
use Rattle.std.proofs.lemmas.Bool.{cases_lt, cases_Bool, cond_both, ltb-true, ltb-false, or_parts}
use Rattle.std.specs.{Prelude.nat_lt, Prelude.is_some, List.filter_map, List.range_with_len, List.list_any}
use Rattle.timing_bridge.specs.{Plan, Verdict, ModuleState, FitsEngine, clock_of, nobody, HistoryStep, state, history, settled_verdict}
use Rattle.timing_bridge.specs.{verdict, held_modules, held, steps_of, outcomes, events_of, answers_in, report_at, report, done, own, from}
use Rattle.timing_bridge.specs.{candidate, core_reply, view, IsFinal, IsAgreed, IsUndetermined, stop, design, lockstep_run, core_steps}
use Rattle.timing_bridge.specs.{AreInOrder, modules_of, core_states, last_stop, determines_some, core_verdict, core_held_by, core_held}
use Rattle.timing_bridge.specs.{core_report}
use Rattle.flow_design.specs.declared.report.Verdict.TheVariants.{Cycles}
use Rattle.event_timing.specs.Core.{Core}
use Rattle.event_timing.proofs.{OwnRuns.own_0, Verdict.done_last, FinalReport.done_limit}
use Rattle.timing_bridge.proofs.{Quiet.nobody_quiet, Quiet.opening_past, Quiet.second_of, History.plan_is_design, History.run_is_history}
use Rattle.timing_bridge.proofs.{Steps.all_steps, Steps.events_are, Settling.last_states, Settling.held_all, Settling.outputs_are}
use Rattle.timing_bridge.proofs.Verdicts.{final_settled, final_cut, final_late}
use Rattle.lockstep_defs.proofs.Exits.{clock_settled}

-- ---- answers

map_all : {Y : Type 0} (F G : ℕ → Y) (n k : ℕ) → ((i : ℕ) → F i ≡ G i) → map F (range_with_len n k) ≡ map G (range_with_len n k)
map_all F G n zero h = refl
map_all {Y} F G n (suc k) h = ap₂ (λ (y : Y) (l : List Y). y ∷ l) (h n) (map_all F G (n + 1) k h)

answers_are : (p : Plan) → FitsEngine p → (limit : ℕ) (x : Core ModuleState) → IsAgreed (design p) (lockstep_run p) limit x → (c : ℕ)
    → ((i : ℕ) → done (design p) (lockstep_run p) i c ≡ x.timed i)
    → answers_in p (history p c) ≡ map (λ i. outcomes (core_steps p x i)) (modules_of p)
answers_are p h limit x g c all =
    map_all (λ (i : ℕ). outcomes (steps_of i (history p c))) (λ (i : ℕ). outcomes (core_steps p x i)) 0 (length p.design.modules)
    (λ i. ap outcomes (sym (all_steps p h limit x g c all i)))

-- ---- the report

report_from : (p : Plan) → FitsEngine p → (limit : ℕ) (x : Core ModuleState) → IsAgreed (design p) (lockstep_run p) limit x
    → (ss : List HistoryStep) → AreInOrder p x ss → (v : Verdict) → verdict p ≡ v
    → ((i : ℕ) → done (design p) (lockstep_run p) i (clock_of v) ≡ x.timed i) → held p v (state p (clock_of v)) ≡ core_held p x v
    → report p ≡ core_report p x ss v
unfolding report
report_from p h limit x g ss o v e all held_same =
    ap (report_at p) e
    ∙ (λ i.
    record {
      verdict = v;
      outputs = outputs_are p h limit x g (clock_of v) all i;
      held = held_same i;
      events = events_of (sym (events_are p h limit x g (clock_of v) all ss o) i);
      answers = answers_are p h limit x g (clock_of v) all i;
    })

-- no step is determined: the verdict's clock is the last stop
report_rested : (p : Plan) → FitsEngine p → (x : Core ModuleState) → IsAgreed (design p) (lockstep_run p) p.cycles x
    → IsFinal (design p) p.cycles x → IsUndetermined (design p) x
    → (last : ℕ) → ((i : ℕ) → stop (design p) x i ≤ last) → (m : ℕ) → stop (design p) x m ≡ last → last ≤ p.cycles
    → (ss : List HistoryStep) → AreInOrder p x ss → report p ≡ core_report p x ss (settled_verdict p last (core_states p x))
report_rested p h x g f u last top m e l ss o =
    let states = last_states p h p.cycles x g f u last top in
    let v = settled_verdict p last (core_states p x) in
    let is : verdict p ≡ v = final_settled p h x g f u last top m e l
    ∙ ap (λ (ms : List ModuleState). settled_verdict p last (record { modules = ms; contents = [] })) states in
    let all = λ (i : ℕ). let t = top i in
    done_last (design p) (lockstep_run p) (plan_is_design p h) (run_is_history p h) p.cycles x g f u i last (omega arith) in
    by_verdict v is (clock_settled p last (core_states p x)) all (held_all p h p.cycles x g f u last top)
  where
    by_verdict : (v : Verdict) → verdict p ≡ v → clock_of v ≡ last → ((i : ℕ) → done (design p) (lockstep_run p) i last ≡ x.timed i)
        → held_modules p last (state p last) ≡ filter_map (core_held_by p x) (modules_of p) → report p ≡ core_report p x ss v
    by_verdict v is k all q =
        report_from p h p.cycles x g ss o v is (λ i. ap (done (design p) (lockstep_run p) i) k ∙ all i) (grind arith)

-- a step is determined, or the last stop is above the limit: the verdict is the limit's
report_cut : (p : Plan) → FitsEngine p → (x : Core ModuleState) → IsAgreed (design p) (lockstep_run p) p.cycles x
    → IsFinal (design p) p.cycles x → verdict p ≡ Cycles p.cycles → (ss : List HistoryStep) → AreInOrder p x ss
    → report p ≡ core_report p x ss (Cycles p.cycles)
report_cut p h x g f e ss o =
    report_from p h p.cycles x g ss o (Cycles p.cycles) e
    (λ i. done_limit (design p) (lockstep_run p) (plan_is_design p h) (run_is_history p h) p.cycles x g f i) refl

-- ---- numbers that name no module

no_steps_beyond : (p : Plan) (limit : ℕ) (x : Core ModuleState) → IsAgreed (design p) (lockstep_run p) limit x → (i : ℕ)
    → length p.design.modules ≤ i → (x.emitted i ≡ 0) × (x.timed i ≡ 0)
no_steps_beyond p limit x g i l = let e = g.marks.inside i l in (e, omega (arith, g.time.within i))

none_beyond : (p : Plan) (limit : ℕ) (x : Core ModuleState) → IsAgreed (design p) (lockstep_run p) limit x → (i : ℕ)
    → length p.design.modules ≤ i → candidate (design p) (view (design p) x) i ≡ None
unfolding candidate
none_beyond p limit x g i l = grind (arith, nat_tests, no_steps_beyond p limit x g i l)

stop_beyond : (p : Plan) (limit : ℕ) (x : Core ModuleState) → IsAgreed (design p) (lockstep_run p) limit x → (i : ℕ)
    → length p.design.modules ≤ i → stop (design p) x i ≡ 0
stop_beyond p limit x g i l =
    let e = no_steps_beyond p limit x g i l in
    let d = design p in
    let first : own d i (core_reply d x i) 0 ≡ nobody = own_0 d i (core_reply d x i) ∙ opening_past p i l in
    ap (λ (n : ℕ). from (x.cycle i) n + d.quiet i (own d i (core_reply d x i) n)) e.1
    ∙ (ap (λ (s : ModuleState). 0 + d.quiet i s) first ∙ ap (λ (n : ℕ). 0 + n) (nobody_quiet p i))

-- ---- what is found by looking over all modules

undetermined_by : (p : Plan) (x : Core ModuleState) (a n : ℕ)
    → list_any (λ i. is_some (candidate (design p) (view (design p) x) i)) (range_with_len a n) ≡ false → (i c : ℕ) → a ≤ i → i < a + n
    → candidate (design p) (view (design p) x) i ≡ Some c → ⊥
undetermined_by p x a zero h i c l m e = omega arith
undetermined_by p x a (suc n) h i c l m e = grind (arith, undetermined_by p x (a + 1) n)

determined_by : (p : Plan) (x : Core ModuleState) (a n : ℕ)
    → list_any (λ i. is_some (candidate (design p) (view (design p) x) i)) (range_with_len a n) ≡ true
    → (i : ℕ) × (c : ℕ) × (candidate (design p) (view (design p) x) i ≡ Some c)
determined_by p x a zero h = cc
determined_by p x a (suc n) h = grind (arith, determined_by p x (a + 1) n)

undetermined : (p : Plan) (x : Core ModuleState) → IsAgreed (design p) (lockstep_run p) p.cycles x → determines_some p x ≡ false
    → IsUndetermined (design p) x
undetermined p x g t m c k =
    let n : ℕ = length p.design.modules in
    grind (arith, undetermined_by p x 0 n t m c, none_beyond p p.cycles x g m)

stop_below : (p : Plan) (x : Core ModuleState) (n i : ℕ) → i < n → stop (design p) x i ≤ last_stop p x n
stop_below p x zero i l = absurd (omega arith)
stop_below p x (suc n) i l = grind (arith, stop_below p x n i)

stop_there : (p : Plan) (x : Core ModuleState) (o n : ℕ) → stop (design p) x o ≡ 0 → (m : ℕ) × (stop (design p) x m ≡ last_stop p x n)
stop_there p x o zero e = (o, e)
stop_there p x o (suc n) e =
    let (m, q) = stop_there p x o n e in
    elim (cases_lt (stop (design p) x n) (last_stop p x n)) [ inl l ↦ (m, omega arith) | inr l ↦ (n, omega arith) ]

-- the report of every final core is the plan's
pub every_report : (p : Plan) → FitsEngine p → (x : Core ModuleState) → IsAgreed (design p) (lockstep_run p) p.cycles x
    → IsFinal (design p) p.cycles x → (ss : List HistoryStep) → AreInOrder p x ss → report p ≡ core_report p x ss (core_verdict p x)
unfolding core_verdict
every_report p h x g f ss o =
    let count = length p.design.modules in
    let last = last_stop p x count in
    let outer = stop_beyond p p.cycles x g count (omega arith) in
    let top : (i : ℕ) → stop (design p) x i ≤ last = λ i. elim (cases_lt i count) [
      | inl l ↦ stop_below p x count i l
      | inr l ↦ let z = stop_beyond p p.cycles x g i l in omega arith
    ] in
    let there = stop_there p x count count outer in
    cond_both (determines_some p x || nat_lt p.cycles last) (Cycles p.cycles) (settled_verdict p last (core_states p x))
    (λ (v : Verdict). report p ≡ core_report p x ss v)
    (λ e. elim (cases_Bool (determines_some p x)) [
      | inl t ↦ let (m, c, k) = determined_by p x 0 count t in report_cut p h x g f (final_cut p h x g f m c k) ss o
      | inr t ↦
          let above = ltb-true p.cycles last (second_of (determines_some p x) (nat_lt p.cycles last) e t) in
          report_cut p h x g f (final_late p h x g f (undetermined p x g t) there.0 (let q = there.1 in omega arith)) ss o
    ])
    (λ e.
    let parts = or_parts (determines_some p x) (nat_lt p.cycles last) e in
    report_rested p h x g f (undetermined p x g parts.0) last top there.0 there.1 (ltb-false p.cycles last parts.1) ss o)
