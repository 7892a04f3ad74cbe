-- How the modules stand is how the theory's core tells it, and so is the verdict.
use Rattle.std.proofs.Common.{◌≡◌, refl, sym, ap, ◌∙◌, ℕ, zero, suc, ◌+◌, ◌-◌, ◌<◌, ◌≤◌, max, Bool, true, false, ◌||◌, cond, List, [], ◌∷◌}
use Rattle.std.proofs.Common.{map, length, get_or, drop, None, Some, Option, arith, inl, inr, add-one}
use Rattle.std.proofs.lemmas.Bool.{cases_lt, cases_Bool, le-ltb, or_parts}
use Rattle.std.proofs.{lemmas.List.get_or-map, lemmas.List.length-map, lemmas.List.Folds.list_all-map, lemmas.List.Sums.fold-append}
use Rattle.std.proofs.lemmas.Option.{slice_get-get_or, slice_get_past}
use Rattle.std.specs.{Prelude.All, Prelude.is_some, Prelude.unwrap_or, Prelude.nat_lt, List.range_with_len, List.list_any}
use Rattle.engine_report.specs.{Plan, Verdict, Advance, ModuleState, Step as StepOf, Lane, no_lane, lane_at, last_cycle, open_step}
use Rattle.engine_report.specs.{determined, ready, own, from, candidate, stop, core_reply, view, design, clocks_of_steps, core_state}
use Rattle.engine_report.specs.{core_verdict, modules_of, step_of, no_step, emitted_of, waited, core_of, Standing, end_at, standing_after}
use Rattle.engine_report.specs.{standing_at, latest_stop, verdict_by, IsEndMark, IsFinished, emitted_state, end_gap}
use Rattle.flow_design.specs.declared.report.Verdict.TheVariants.{Done, Deadlock, Cycles, Ops}
use Rattle.flow_design.specs.declared.state.Advance.TheVariants.{Step, Ended, Spent}
use Rattle.event_timing.specs.Core.{Core}
use Rattle.timing_bridge.proofs.History.{plan_is_design}
use Rattle.engine_view.specs.Held.{Held}
use Rattle.engine_view.proofs.{Bounds.candidate_is, Knowing.timed_within}
use Rattle.engine_report.proofs.{Same.map_same, Loops.mapped_more}
use Rattle.lockstep_defs.specs.Machine as machine
use Rattle.timing_bridge.specs.CoreReports as theory

-- how a module stands, as the theory's core tells it
abbrev standing_in : Plan → Core ModuleState → ℕ → Standing
standing_in p x i = record {
  stop = stop (design p) x i;
  ended = (core_state p x i).ended;
  spent = machine.is_spent p.ops (core_state p x i);
  determined = is_some (candidate (design p) (view (design p) x) i);
}

abbrev standing_with : ℕ → Bool → Bool → Bool → Standing
standing_with stop ended spent determined = record { stop = stop; ended = ended; spent = spent; determined = determined }

standings_same : {a b : ℕ} {c d e f g h : Bool} → a ≡ b → c ≡ d → e ≡ f → g ≡ h → standing_with a c e g ≡ standing_with b d f h
standings_same x y z w = cc

-- ---- the clock in which it stops

last_from : (lane : Lane) (n : ℕ) → n ≡ length lane.cycles
    → unwrap_or (last_cycle lane) 0 + clocks_of_steps n ≡ from (λ k. get_or lane.cycles k 0) n
last_from lane zero e = rw (slice_get_past lane.cycles (length lane.cycles - 1) (omega arith)) refl
last_from lane (suc k) e =
    let last : length lane.cycles - 1 ≡ k = omega arith in
    rw (last, slice_get-get_or lane.cycles k 0 (omega arith)) (omega arith)

pub waited_is : (n gap : ℕ) → (0 < n → 1 ≤ gap) → clocks_of_steps n + waited n gap ≡ gap
waited_is n gap g = grind arith

pub apart_at : (steps : List StepOf) → All (λ (s : StepOf). 1 ≤ s.gap) (drop 1 steps) → (k : ℕ) (e : StepOf) → 0 < k → k < length steps
    → 1 ≤ (get_or steps k e).gap
apart_at [] all k e q l = absurd (omega arith)
apart_at (s ∷ steps) all zero e q l = absurd (omega arith)
apart_at (s ∷ steps) all (suc k) e q l = all k e (omega arith)

-- ---- before its first step without a cycle

before_step : (p : Plan) (h : Held) (ends : List (Option Advance)) → IsFinished p h ends → (i : ℕ) → i < length h.lanes
    → length (lane_at h.lanes i).cycles < emitted_of h i
    → standing_at h.lanes h.channels ends i ≡ standing_in p (core_of (design p) h) i
unfolding machine.is_over
before_step p h ends f i inside less =
    let d = design p in
    let x = core_of d h in
    let lane = lane_at h.lanes i in
    let k = length lane.cycles in
    let step = step_of h i k in
    let there : open_step lane ≡ Some step = slice_get-get_or lane.steps k no_step less in
    let b = f.agreed.marks in
    let state : core_state p x i ≡ x.state i k = sym (b.own_step i k less) in
    let (l1, l2) = or_parts (x.state i k).ended (machine.is_spent p.ops (x.state i k)) (b.lives i k less) in
    let apart = λ (q : 0 < k). apart_at lane.steps (f.sound.sound_lanes i no_lane inside).apart k no_step q less in
    let gap = waited_is k step.gap apart in
    let wait : waited k step.gap ≡ d.quiet i (own d i (core_reply d x i) k) = b.own_wait i k less in
    let first = last_from lane k refl in
    let clock : unwrap_or (last_cycle lane) 0 + step.gap ≡ stop d x i = omega arith in
    rw there (standings_same clock (sym (ap (λ (s : ModuleState). s.ended) state ∙ l1)) (sym (ap (machine.is_spent p.ops) state ∙ l2))
    (ap (λ (o : Option ℕ). is_some o) (candidate_is d (plan_is_design p f.fits) h f.sound i)))

-- ---- at its end

over_at : (p : Plan) (h : Held) (ends : List (Option Advance)) → IsFinished p h ends → (i : ℕ) → i < length h.lanes
    → emitted_of h i ≤ length (lane_at h.lanes i).cycles
    → (core_of (design p) h).over i ≡ true
over_at p h ends f i inside more =
    let x = core_of (design p) h in
    let n = f.sound.lanes in
    let u = f.agreed.time in
    elim (cases_Bool (x.over i)) [
      | inl over ↦ over
      | inr on ↦ absurd (f.final.quiet.no_run i (record {
        inside = omega arith;
        lives = on;
        answered = λ k r. u.answered_then i k (omega arith);
        there = λ k r. u.there_then i k (omega arith);
      }))
    ]

mark_there : (o : Option Advance) → is_some o ≡ true → (mark : Advance) × (o ≡ Some mark)
mark_there None e = cc
mark_there (Some mark) e = (mark, refl)

pub end_there : (p : Plan) (h : Held) (ends : List (Option Advance)) → IsFinished p h ends → (i : ℕ) → i < length h.lanes
    → emitted_of h i ≤ length (lane_at h.lanes i).cycles
    → (mark : Advance) × (end_at ends i ≡ Some mark)
end_there p h ends f i inside more =
    let over = over_at p h ends f i inside more in
    let same = f.marks.over in
    let few : i < length ends = let a = f.sound.lanes in let b = f.sound.overs in omega
    (arith, ap length same, length-map ends (λ (o : Option Advance). is_some o)) in
    mark_there (end_at ends i) (rw (same, get_or-map (λ (o : Option Advance). is_some o) ends i None false few) at over)

none_determined : (p : Plan) (x : Core ModuleState) (i : ℕ) → x.emitted i ≤ x.timed i
    → false ≡ is_some (candidate (design p) (view (design p) x) i)
unfolding candidate
none_determined p x i l = rw (le-ltb (x.timed i) (x.emitted i) l) refl

-- with this end mark
marked : (p : Plan) (h : Held) (i gap : ℕ) → emitted_of h i ≡ length (lane_at h.lanes i).cycles → gap ≡ end_gap p (core_of (design p) h) i
    → (ended spent : Bool) → (ready (design p) i (emitted_state p (core_of (design p) h) i)).ended ≡ ended
    → machine.is_spent p.ops (ready (design p) i (emitted_state p (core_of (design p) h) i)) ≡ spent
    → standing_with (unwrap_or (last_cycle (lane_at h.lanes i)) 0 + gap) ended spent false ≡ standing_in p (core_of (design p) h) i
marked p h i gap all is ended spent e s =
    let x = core_of (design p) h in
    let lane = lane_at h.lanes i in
    let first = last_from lane (length lane.cycles) refl in
    let last = rw all at is in
    let state : core_state p x i ≡ ready (design p) i (emitted_state p x i) = rw all refl in
    standings_same (omega arith) (sym (ap (λ (s : ModuleState). s.ended) state ∙ e)) (sym (ap (machine.is_spent p.ops) state ∙ s))
    (none_determined p x i (omega arith))

at_mark : (p : Plan) (h : Held) (i : ℕ) → emitted_of h i ≡ length (lane_at h.lanes i).cycles
    → (mark : Advance) → IsEndMark p (core_of (design p) h) i mark
    → standing_after (unwrap_or (last_cycle (lane_at h.lanes i)) 0) (Some mark) ≡ standing_in p (core_of (design p) h) i
at_mark p h i all (Step step) m = absurd m
at_mark p h i all (Ended gap) (m1, m2) = marked p h i gap all m2 true false m1 (grind arith)
at_mark p h i all (Spent gap) (m1, m2) = marked p h i gap all m2 false true (grind arith) m1

standing_is : (p : Plan) (h : Held) (ends : List (Option Advance)) → IsFinished p h ends → (i : ℕ) → i < length h.lanes
    → standing_at h.lanes h.channels ends i ≡ standing_in p (core_of (design p) h) i
standing_is p h ends f i inside =
    let lane = lane_at h.lanes i in
    let k = length lane.cycles in
    let within = timed_within (design p) h f.sound i in
    elim (cases_lt k (length lane.steps)) [
      | inl less ↦ before_step p h ends f i inside less
      | inr more ↦
          let (mark, there) = end_there p h ends f i inside more in
          rw (slice_get_past lane.steps k more, there) (at_mark p h i (omega arith) mark (f.marks.each i mark there))
    ]

-- ---- the verdict

any_mapped : {X Y : Type 0} (q : X → Bool) (g : Y → X) (ys : List Y) → list_any q (map g ys) ≡ list_any (λ y. q (g y)) ys
any_mapped q g [] = refl
any_mapped q g (y ∷ ys) = let later = any_mapped q g ys in grind arith

last_is : (p : Plan) (x : Core ModuleState) (n : ℕ) → latest_stop (map (standing_in p x) (range_with_len 0 n)) ≡ theory.last_stop p x n
last_is p x zero = refl
last_is p x (suc n) =
    let folded = fold-append (λ (clock : ℕ) (s : Standing). max clock s.stop) 0 (map (standing_in p x) (range_with_len 0 n))
    (standing_in p x n ∷ []) in
    let later = last_is p x n in
    ap (λ (k : ℕ). latest_stop (map (standing_in p x) (range_with_len 0 k))) (sym (add-one n))
    ∙ (ap latest_stop (mapped_more (standing_in p x) n) ∙ (folded ∙ omega arith))

abbrev decide : ℕ → Bool → Bool → Bool → ℕ → Verdict
decide limit determined ended spent last = cond (determined || nat_lt limit last) (Cycles limit)
    (cond ended (Done last) (cond spent (Ops last) (Deadlock last)))

verdict_in : (p : Plan) (x : Core ModuleState) → verdict_by p.cycles (map (standing_in p x) (modules_of p)) ≡ core_verdict p x
unfolding core_verdict
verdict_in p x =
    let n = length p.design.modules in
    let standings = map (standing_in p x) (modules_of p) in
    let last = last_is p x n in
    let determined = any_mapped (λ (s : Standing). s.determined) (standing_in p x) (modules_of p) in
    let ended = list_all-map (λ (s : Standing). s.ended) (standing_in p x) (modules_of p)
    ∙ sym (list_all-map (λ (s : ModuleState). s.ended) (core_state p x) (modules_of p)) in
    let spent = any_mapped (λ (s : Standing). s.spent) (standing_in p x) (modules_of p)
    ∙ sym (any_mapped (machine.is_spent p.ops) (core_state p x) (modules_of p)) in
    (λ i. decide p.cycles (determined i) (ended i) (spent i) (last i))

pub verdict_is : (p : Plan) (h : Held) (ends : List (Option Advance)) → IsFinished p h ends
    → verdict_by p.cycles (map (standing_at h.lanes h.channels ends) (range_with_len 0 (length h.lanes))) ≡ core_verdict p
    (core_of (design p) h)
verdict_is p h ends f =
    ap (verdict_by p.cycles) (map_same (standing_at h.lanes h.channels ends) (standing_in p (core_of (design p) h)) 0 (length h.lanes)
    (λ i l. standing_is p h ends f i (omega arith))
    ∙ ap (λ (n : ℕ). map (standing_in p (core_of (design p) h)) (range_with_len 0 n)) f.sound.lanes)
    ∙ verdict_in p (core_of (design p) h)
