-- The spans of a module, step by step, over what an engine holds at its end.
use Rattle.std.proofs.Common.{◌≡◌, ℕ, zero, suc, ◌+◌, ◌<◌, ◌≤◌, List, [], refl, sym, ap, ◌∙◌, arith, min, max, length, get_or, Some, None}
use Rattle.std.proofs.Common.{Option, subst, add-one, slice_get}
use Rattle.std.proofs.{lemmas.List.length-map, lemmas.Option.slice_get-get_or}
use Rattle.std.specs.Prelude.{unwrap_or, is_some, IfSome}
use Rattle.engine_report.specs.{Plan, Advance, clock_of, verdict, own, core_reply, design, lockstep_run, clocks_of_steps, no_lane, lane_at}
use Rattle.engine_report.specs.{cycle_bound, gap_bound, core_of, step_of, no_step, emitted_of, waited, IsFinished, IsEndMark, end_gap}
use Rattle.engine_report.specs.{end_at, gap_of_end, StandsBetween, cycle_before, clock_after, HasPassedSteps, Span, doing, AreSpansBelow}
use Rattle.engine_report.specs.{AreSpans, reached, Comes, Does, arrives}
use Rattle.flow_design.specs.declared.state.Advance.TheVariants.{Step, Ended, Spent}
use Rattle.timing_bridge.proofs.History.{plan_is_design, run_is_history}
use Rattle.timelines.proofs.{Ending.last_within, Waits.step_clocks, Waits.last_clocks}
use Rattle.timelines.proofs.Causes.{timed_gap, timed_after, step_moves, stands-doing, last_gap, last_over}
use Rattle.timelines.proofs.Extending.{listed_spans, spans_listed, span_over, span_none}
use Rattle.engine_view.specs.Held.{Held}
use Rattle.engine_view.proofs.Knowing.{timed_within}
use Rattle.engine_report.proofs.{Ending.waited_is, Ending.apart_at, Ending.end_there, SpanSame.reads_core}
use Rattle.timelines.specs.declared.span.Doing.TheVariants.{Moves}

-- the cycles of a module's steps, and how many have one
abbrev cycles_of : Held → ℕ → List ℕ
cycles_of h i = (lane_at h.lanes i).cycles

abbrev timed_of : Held → ℕ → ℕ
timed_of h i = length (cycles_of h i)

-- module i of an engine that has come to the end of the plan's simulation, whose verdict has this clock
pub record IsRead (p : Plan) (h : Held) (ends : List (Option Advance)) (i clock : ℕ) : Type 0 where
  pub finished : IsFinished p h ends
  pub inside : i < length h.lanes
  pub its_clock : clock ≡ clock_of (verdict p)

within : (p : Plan) (h : Held) (ends : List (Option Advance)) (i clock : ℕ) → IsRead p h ends i clock → clock ≤ p.cycles
within p h ends i clock r = subst (λ (c : ℕ). c ≤ p.cycles) (sym r.its_clock) (last_within p)

-- ---- when it comes to a step, and to its end

after_before : (cycles : List ℕ) (k : ℕ) → clock_after cycles k ≡ cycle_before cycles k + clocks_of_steps k
after_before cycles zero = refl
after_before cycles (suc k) = omega arith

arrives_at : (p : Plan) (h : Held) (ends : List (Option Advance)) → IsFinished p h ends → (i k : ℕ) → i < length h.lanes
    → k < emitted_of h i
    → arrives (design p) (core_of (design p) h) i k ≡ cycle_before (cycles_of h i) k + (step_of h i k).gap
arrives_at p h ends f i k inside less =
    let d = design p in
    let x = core_of d h in
    let lane = lane_at h.lanes i in
    let step = step_of h i k in
    let apart = λ (q : 0 < k). apart_at lane.steps (f.sound.sound_lanes i no_lane inside).apart k no_step q less in
    let gap = waited_is k step.gap apart in
    let wait : waited k step.gap ≡ d.quiet i (own d i (core_reply d x i) k) = f.agreed.marks.own_wait i k less in
    let first = after_before lane.cycles k in
    omega arith

mark_gap : (p : Plan) (h : Held) (i : ℕ) (mark : Advance) → IsEndMark p (core_of (design p) h) i mark
    → gap_of_end (Some mark) ≡ end_gap p (core_of (design p) h) i
mark_gap p h i (Step step) m = absurd m
mark_gap p h i (Ended gap) m = m.1
mark_gap p h i (Spent gap) m = m.1

ends_at : (p : Plan) (h : Held) (ends : List (Option Advance)) → IsFinished p h ends → (i : ℕ) → i < length h.lanes
    → emitted_of h i ≡ timed_of h i
    → arrives (design p) (core_of (design p) h) i (timed_of h i)
    ≡ cycle_before (cycles_of h i) (timed_of h i) + gap_of_end (end_at ends i)
ends_at p h ends f i inside all =
    let (mark, there) = end_there p h ends f i inside (omega arith) in
    let gap : gap_of_end (end_at ends i) ≡ end_gap p (core_of (design p) h) i = ap (λ (o : Option Advance). gap_of_end o) there
    ∙ mark_gap p h i mark (f.marks.each i mark there) in
    let last = rw all at gap in
    let first = after_before (cycles_of h i) (timed_of h i) in
    omega arith

-- the cycle of a step that has one
pub cycle_got : (cycles : List ℕ) (k : ℕ) (o : Option ℕ) (n : ℕ) → k < length cycles → o ≡ slice_get cycles k → n ≡ unwrap_or o 0
    → n ≡ get_or cycles k 0
cycle_got cycles k o n l e q = q ∙ (ap (λ (x : Option ℕ). unwrap_or x 0) (e ∙ slice_get-get_or cycles k 0 l))

pub below_got : (o : Option ℕ) (n : ℕ) → n ≡ unwrap_or o 0 → IfSome o (λ c. c < cycle_bound) → n < cycle_bound
below_got None n e h = omega arith
below_got (Some c) n e h = omega arith

-- ---- a step with a cycle

-- it moves up to the step
gap_told : (p : Plan) (h : Held) (ends : List (Option Advance)) (i clock : ℕ) → IsRead p h ends i clock → (k b last cycle until : ℕ)
    → k < timed_of h i → b ≡ min (clock_after (cycles_of h i) k) clock
    → last ≡ cycle_before (cycles_of h i) k → cycle ≡ get_or (cycles_of h i) k 0 → until ≡ min cycle clock
    → Does p i b (min (last + (step_of h i k).gap) until) Moves
gap_told p h ends i clock r k b last cycle until less e l q u = λ c y z.
    let f = r.finished in
    let n = timed_within (design p) h f.sound i in
    let a = arrives_at p h ends f i k r.inside (omega arith) in
    timed_gap p f.fits p.cycles (core_of (design p) h) f.agreed i k c less (omega arith) (omega arith) (omega arith)

-- it stands at the step up to its cycle
wait_told : (p : Plan) (h : Held) (ends : List (Option Advance)) (i clock : ℕ) → IsRead p h ends i clock → (k b last cycle until : ℕ)
    → k < timed_of h i → last ≡ cycle_before (cycles_of h i) k
    → cycle ≡ get_or (cycles_of h i) k 0 → until ≡ min cycle clock
    → StandsBetween p i h.lanes h.channels (step_of h i k).accesses (max b (min (last + (step_of h i k).gap) until)) until
wait_told p h ends i clock r k b last cycle until less l q u = λ c y z.
    let f = r.finished in
    let x = core_of (design p) h in
    let n = timed_within (design p) h f.sound i in
    let w = within p h ends i clock r in
    let emitted : k < emitted_of h i = omega arith in
    let a = arrives_at p h ends f i k r.inside emitted in
    let come : arrives (design p) x i k ≤ c = omega arith in
    stands-doing p f.fits p.cycles x f.agreed f.final i k c (omega arith) emitted (omega arith)
    (step_clocks (design p) (lockstep_run p) p.cycles x f.agreed i k c less (omega arith) (omega arith)) come
    ∙ ap (λ d. Some d) (sym (reads_core p (plan_is_design p f.fits) h f.sound i k c emitted))

-- and in its cycle it moves
move_told : (p : Plan) (h : Held) (ends : List (Option Advance)) (i clock : ℕ) → IsRead p h ends i clock → (k b cycle next : ℕ)
    → k < timed_of h i → cycle ≡ get_or (cycles_of h i) k 0 → min cycle clock ≤ b
    → next ≡ min (cycle + 1) clock → Does p i b next Moves
move_told p h ends i clock r k b cycle next less q l u = λ c y z.
    let f = r.finished in
    let e : get_or (cycles_of h i) k 0 ≡ c = omega arith in
    subst (λ (n : ℕ). doing p n i ≡ Some Moves) e (step_moves p f.fits p.cycles (core_of (design p) h) f.agreed i k less)

-- so it comes from the clock after the step before to the clock after the step
pub step_told : (p : Plan) (h : Held) (ends : List (Option Advance)) (i clock : ℕ) → IsRead p h ends i clock → (k last cycle until next : ℕ)
    → (old mid new : List Span) → k < timed_of h i → last ≡ cycle_before (cycles_of h i) k
    → cycle ≡ get_or (cycles_of h i) k 0 → until ≡ min cycle clock → next ≡ min (cycle + 1) clock
    → HasPassedSteps p i clock (cycles_of h i) k old
    → (Comes p i old → Does p i (reached old) (min (last + (step_of h i k).gap) until) Moves
    → StandsBetween p i h.lanes h.channels (step_of h i k).accesses (max (reached old) (min (last + (step_of h i k).gap) until)) until
    → Comes p i mid)
    → reached mid ≡ max (reached old) until → (Comes p i mid → Does p i (reached mid) next Moves → Comes p i new)
    → reached new ≡ max (reached mid) next → HasPassedSteps p i clock (cycles_of h i) (k + 1) new
step_told p h ends i clock r k last cycle until next old mid new less l q u v s stood at moved to = record {
  comes = moved
      (stood s.comes (gap_told p h ends i clock r k (reached old) last cycle until less s.reached l q u)
      (wait_told p h ends i clock r k (reached old) last cycle until less l q u))
      (move_told p h ends i clock r k (reached mid) cycle next less q (omega arith) v);
  reached =
      let f = r.finished in
      let a = timed_after p f.fits p.cycles (core_of (design p) h) f.agreed i k less in
      let b = s.reached in
      to ∙ (let z : max (reached mid) next ≡ min (suc (get_or (cycles_of h i) k 0)) clock = omega arith in
      z ∙ ap (λ (n : ℕ). min (clock_after (cycles_of h i) n) clock) (sym (add-one k)));
}

-- ---- after the last step with a cycle

-- it moves up to its next step
open_gap_told : (p : Plan) (h : Held) (ends : List (Option Advance)) (i clock : ℕ) → IsRead p h ends i clock → (b last : ℕ)
    → timed_of h i < emitted_of h i → b ≡ min (clock_after (cycles_of h i) (timed_of h i)) clock
    → last ≡ cycle_before (cycles_of h i) (timed_of h i) → Does p i b (min (last + (step_of h i (timed_of h i)).gap) clock) Moves
open_gap_told p h ends i clock r b last less e l = λ c y z.
    let f = r.finished in
    let w = within p h ends i clock r in
    let a = arrives_at p h ends f i (timed_of h i) r.inside less in
    last_gap p f.fits p.cycles (core_of (design p) h) f.agreed f.final i c (omega arith) (omega arith) (omega arith)

-- and stands at it up to the verdict's clock
open_wait_told : (p : Plan) (h : Held) (ends : List (Option Advance)) (i clock : ℕ) → IsRead p h ends i clock → (b last : ℕ)
    → timed_of h i < emitted_of h i → last ≡ cycle_before (cycles_of h i) (timed_of h i)
    → StandsBetween p i h.lanes h.channels (step_of h i (timed_of h i)).accesses
    (max b (min (last + (step_of h i (timed_of h i)).gap) clock)) clock
open_wait_told p h ends i clock r b last less l = λ c y z.
    let f = r.finished in
    let d = design p in
    let x = core_of d h in
    let k = timed_of h i in
    let w = within p h ends i clock r in
    let a = arrives_at p h ends f i k r.inside less in
    let come : arrives d x i k ≤ c = omega arith in
    stands-doing p f.fits p.cycles x f.agreed f.final i k c (omega arith) less (omega arith)
    (last_clocks d (lockstep_run p) (plan_is_design p f.fits) (run_is_history p f.fits) p.cycles x f.agreed f.final i c
    (omega arith) (omega arith)) come
    ∙ ap (λ d. Some d) (sym (reads_core p (plan_is_design p f.fits) h f.sound i k c less))

pub open_told : (p : Plan) (h : Held) (ends : List (Option Advance)) (i clock : ℕ) → IsRead p h ends i clock → (k last : ℕ)
    → (old new : List Span) → k ≡ timed_of h i → k < emitted_of h i
    → last ≡ cycle_before (cycles_of h i) (timed_of h i) → HasPassedSteps p i clock (cycles_of h i) (timed_of h i) old
    → (Comes p i old → Does p i (reached old) (min (last + (step_of h i k).gap) clock) Moves
    → StandsBetween p i h.lanes h.channels (step_of h i k).accesses (max (reached old) (min (last + (step_of h i k).gap) clock)) clock
    → Comes p i new)
    → reached new ≡ max (reached old) clock → AreSpans p i new
open_told p h ends i clock r k last old new t less l s stood to =
    let b = s.reached in
    let z : reached new ≡ clock = omega arith in
    subst (λ (n : ℕ). AreSpansBelow p i n new) (z ∙ r.its_clock)
    ((rw t at stood) s.comes (open_gap_told p h ends i clock r (reached old) last (omega arith) b l)
    (open_wait_told p h ends i clock r (reached old) last (omega arith) l))

-- or it moves up to its end, where there is no further step, and is over
pub end_told : (p : Plan) (h : Held) (ends : List (Option Advance)) (i clock : ℕ) → IsRead p h ends i clock → (last next : ℕ)
    → (old new : List Span) → emitted_of h i ≡ timed_of h i
    → last ≡ cycle_before (cycles_of h i) (timed_of h i) → next ≡ min (last + gap_of_end (end_at ends i)) clock
    → HasPassedSteps p i clock (cycles_of h i) (timed_of h i) old
    → (Comes p i old → Does p i (reached old) next Moves → Comes p i new) → reached new ≡ max (reached old) next → AreSpans p i new
end_told p h ends i clock r last next old new n l u s moved to =
    let f = r.finished in
    let w = within p h ends i clock r in
    let x = core_of (design p) h in
    let b = s.reached in
    let a = ends_at p h ends f i r.inside n in
    let come = moved s.comes (λ c y z. last_gap p f.fits p.cycles x f.agreed f.final i c (omega arith) (omega arith) (omega arith)) in
    subst (λ (n : ℕ). AreSpansBelow p i n new) r.its_clock
    (listed_spans p i clock new
    (span_over p i (reached new) clock new (spans_listed p i (reached new) new come) (omega arith)
    (λ c y z. last_over p f.fits p.cycles x f.agreed f.final i c (sym n) (omega arith) (omega arith))))

-- before the first step
pub none_told : (p : Plan) (i clock : ℕ) (cycles : List ℕ) → HasPassedSteps p i clock cycles 0 []
none_told p i clock cycles = record {
  comes = listed_spans p i 0 [] (span_none p i);
  reached = omega arith;
}

-- ---- what the reading asks for

-- a module of the plan has its lane, and its end mark with a short gap
pub record HasModule (h : Held) (ends : List (Option Advance)) (i : ℕ) : Type 0 where
  pub lane : i < length h.lanes
  pub mark : i < length ends
  pub short : gap_of_end (end_at ends i) < gap_bound

pub has_module : (p : Plan) (h : Held) (ends : List (Option Advance)) → IsFinished p h ends → (i : ℕ) → i < length p.design.modules
    → HasModule h ends i
has_module p h ends f i l = record {
  lane = omega (arith, f.sound.lanes);
  mark = omega (arith, f.sound.overs, ap length f.marks.over, length-map ends (λ (o : Option Advance). is_some o));
  short = f.marks.short i;
}
