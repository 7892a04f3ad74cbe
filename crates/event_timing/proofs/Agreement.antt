-- Every list of permitted actions keeps agreement.
use Rattle.std.proofs.Common.{◌≡◌, ℕ, zero, suc, ◌<◌, ◌≤◌, true, false, ◌⊎◌, inl, inr, List, [], ◌∷◌, sym, subst, arith, ltb, Some}
use Rattle.std.proofs.lemmas.Bool.{ltb-false}
use Rattle.event_timing.specs.{values_there, core_reply, opening_core, core_accesses, view, own, own_state, ready, Design, IsDesign, Trace}
use Rattle.event_timing.specs.{IsHistory, done, candidate, IsStuck, MayRun, Action, MayAnswer, MayEarliest, IsOpen, IsQuiet, Acts, ActsAll}
use Rattle.event_timing.specs.{after_answer, IsSame, IsFinal, new_flags, AreOwnMarks, IsTimed, IsAgreed, possible_all, Core.Core}
use Rattle.event_timing.proofs.{OwnRuns.own_0, Fronts.agrees, Assigning.assign_time, Assigning.assign_marks, Running.run_marks}
use Rattle.event_timing.proofs.{Running.run_time, Answering.answer_marks, Answering.answer_time, Answering.first_emitted}
use Rattle.event_timing.proofs.{Candidate.candidate_parts, Earliest.answers_right, Earliest.earliest_right, Earliest.nobody_ahead}

-- a module that may not run, though each reply to its newest step is there, is over
pub run_ended : {S : Type 0} → (d : Design S) → IsDesign d → (x : Core S) → AreOwnMarks d x → (m : ℕ) → (MayRun d x m → ⊥)
    → ((k : ℕ) → suc k ≡ x.emitted m → x.answered m k ≡ true) → ((k : ℕ) → suc k ≡ x.emitted m → values_there d x m k ≡ true)
    → d.is_over m (ready d m (own d m (core_reply d x m) (x.emitted m))) ≡ true
run_ended {S} d i x b m stays f g =
    let may = λ (w : m < d.modules) (v : x.over m ≡ false). stays (record { inside = w; lives = v; answered = f; there = g }) in
    grind (arith, b.ended m, b.inside m, i.outside m, own_0 d m (core_reply d x m))

-- where nothing but Earliest can be done, every module is over or waits
pub stuck_ended : {S : Type 0} → (d : Design S) (h : Trace S) → IsDesign d → (limit : ℕ) (x : Core S) → AreOwnMarks d x
    → IsTimed d h limit x
    → IsQuiet d limit x → (m : ℕ) → ltb (x.timed m) (x.emitted m) ≡ false → d.is_over m (own_state d (view d x) m (x.timed m)) ≡ true
stuck_ended {S} d h i limit x b u q m o =
    let e : x.emitted m ≡ x.timed m = omega (arith, u.within m, ltb-false (x.timed m) (x.emitted m) o) in
    rw e at (run_ended d i x b m (q.no_run m) (λ k r. u.answered_then m k (omega arith)) (λ k r. u.there_then m k (omega arith)))

stuck_later : {S : Type 0} → (d : Design S) (limit : ℕ) (x : Core S) → IsQuiet d limit x → (t : ℕ) → t ≤ limit
    → ((n e : ℕ) → IsOpen d limit x n e → t ≤ e) → (m c : ℕ) → candidate d (view d x) m ≡ Some c → t ≤ c
stuck_later {S} d limit x q t l f m c e = grind (arith, q.no_assign m c, q.no_answer m c, f m c)

pub stuck : {S : Type 0} → (d : Design S) (h : Trace S) → IsDesign d → (limit : ℕ) (x : Core S) → AreOwnMarks d x → IsTimed d h limit x
    → IsQuiet d limit x → (t : ℕ) → t ≤ limit → ((n e : ℕ) → IsOpen d limit x n e → t ≤ e) → IsStuck d (view d x) t
stuck {S} d h i limit x b u q t l f = record { ended = stuck_ended d h i limit x b u q; later = stuck_later d limit x q t l f }

answered_agrees : {S : Type 0} → (d : Design S) (h : Trace S) → IsDesign d → IsHistory d h → (limit : ℕ) (x : Core S)
    → IsAgreed d h limit x → (m c : ℕ)
    → c < limit → candidate d (view d x) m ≡ Some c → new_flags d x m c ≡ possible_all d h c (core_accesses d x m (x.timed m))
    → (y : Core S) → (IsSame d x m c × (y ≡ after_answer d x m c)) ⊎ ((IsSame d x m c → ⊥) × (y ≡ x)) → IsAgreed d h limit y
answered_agrees {S} d h i y limit x g m c l e r z (inl w) =
    rw w.1 (record {
      marks = answer_marks d i x g.marks m c (first_emitted d x m c e) w.0;
      time = answer_time d h i y limit x g.marks g.time m c e r w.0 l;
    })
answered_agrees {S} d h i y limit x g m c l e r z (inr w) = rw w.1 g

-- what an Answer finds is the history's
pub answer_found : {S : Type 0} → (d : Design S) (h : Trace S) → IsDesign d → IsHistory d h → (limit : ℕ) (x : Core S)
    → IsAgreed d h limit x → (m c : ℕ) → MayAnswer d limit x m c → new_flags d x m c ≡ possible_all d h c (core_accesses d x m (x.timed m))
answer_found {S} d h i y limit x g m c r =
    let at = r.determined.at in
    let (o, u, p, q) = candidate_parts d (view d x) m c at in
    answers_right d h i y (view d x) (agrees d h limit x g.marks g.time) m c o at r.decided

-- and so is what an Earliest finds
pub earliest_found : {S : Type 0} → (d : Design S) (h : Trace S) → IsDesign d → IsHistory d h → (limit : ℕ) (x : Core S)
    → IsAgreed d h limit x → (m c : ℕ)
    → MayEarliest d limit x m c → new_flags d x m c ≡ possible_all d h c (core_accesses d x m (x.timed m))
earliest_found {S} d h i y limit x g m c r =
    let at = r.open_step.determined.at in
    let (o, u, p, q) = candidate_parts d (view d x) m c at in
    let k = r.open_step.determined.below in
    let s = stuck d h i limit x g.marks g.time r.quiet c (omega arith) r.least in
    earliest_right d h i y (view d x) (agrees d h limit x g.marks g.time) m c o at s

pub acts_agree : {S : Type 0} → (d : Design S) (h : Trace S) → IsDesign d → IsHistory d h → (limit : ℕ) (x : Core S) → IsAgreed d h limit x
    → (a : Action) (z : Core S) → Acts d limit x a z → IsAgreed d h limit z
acts_agree {S} d h i y limit x g (Action.Run m) z (r, e) =
    rw e (record { marks = run_marks d x g.marks m r; time = run_time d h i y limit x g.marks g.time m r })
acts_agree {S} d h i y limit x g (Action.Assign m) z (c, r, e) =
    rw e (record { marks = assign_marks d x m c g.marks; time = assign_time d h i y limit x g.marks g.time m c r })
acts_agree {S} d h i y limit x g (Action.Answer m) z (c, r, e) =
    answered_agrees d h i y limit x g m c r.determined.below r.determined.at (answer_found d h i y limit x g m c r) z e
acts_agree {S} d h i y limit x g (Action.Earliest m) z (c, r, e) =
    answered_agrees d h i y limit x g m c r.open_step.determined.below r.open_step.determined.at
    (earliest_found d h i y limit x g m c r) z e

pub all_agree : {S : Type 0} → (d : Design S) (h : Trace S) → IsDesign d → IsHistory d h → (limit : ℕ) (x : Core S) → IsAgreed d h limit x
    → (actions : List Action) (z : Core S) → ActsAll d limit x actions z → IsAgreed d h limit z
all_agree {S} d h i y limit x g [] z e = subst (IsAgreed d h limit) (sym e) g
all_agree {S} d h i y limit x g (a ∷ more) z (w, s, t) = all_agree d h i y limit w (acts_agree d h i y limit x g a w s) more z t

pub opening_agrees : {S : Type 0} → (d : Design S) (h : Trace S) → IsDesign d → IsHistory d h → (limit : ℕ)
    → IsAgreed d h limit (opening_core d)
opening_agrees {S} d h i y limit = grind arith

-- a final core has no open step
pub final_closed : {S : Type 0} → (d : Design S) (limit : ℕ) (x : Core S) → IsFinal d limit x → (b e : ℕ) → e < b → (n : ℕ)
    → IsOpen d limit x n e → ⊥
final_closed {S} d limit x f zero e l n o = omega arith
final_closed {S} d limit x f (suc b) e l n o =
    f.no_earliest n e
    (record { open_step = o; quiet = f.quiet; least = λ n' e' o'. grind (arith, λ (w : e' < b). final_closed d limit x f b e' w n' o') })

pub final_stuck : {S : Type 0} → (d : Design S) (h : Trace S) → IsDesign d → (limit : ℕ) (x : Core S) → IsAgreed d h limit x
    → IsFinal d limit x → IsStuck d (view d x) limit
final_stuck {S} d h i limit x g f =
    stuck d h i limit x g.marks g.time f.quiet limit (omega arith) (λ n e o. absurd (final_closed d limit x f (suc e) e (omega arith) n o))

-- in a final core every step of the history below the limit has its cycle
pub final_complete : {S : Type 0} → (d : Design S) (h : Trace S) → IsDesign d → IsHistory d h → (limit : ℕ) (x : Core S)
    → IsAgreed d h limit x → IsFinal d limit x → (m c : ℕ) → c ≤ limit → done d h m c ≤ x.timed m
final_complete {S} d h i y limit x g f m c l =
    nobody_ahead d h i y (view d x) (agrees d h limit x g.marks g.time) limit (final_stuck d h i limit x g f) c l m
