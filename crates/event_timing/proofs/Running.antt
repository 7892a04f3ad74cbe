-- A Run keeps agreement.
use Rattle.std.proofs.lemmas.Bool.Decides.{nat_tests}
use Rattle.std.proofs.Common.{◌≡◌, ℕ, zero, suc, ◌<◌, ◌≤◌, Bool, true, false, List, ◌++◌, sym, refl, ap, ap₂, ◌∙◌, arith, [], ◌∷◌}
use Rattle.flow_word.specs.declared.access.Side.TheVariants.{Push}
use Rattle.event_timing.specs.{Design, IsDesign, Access, ready, values_in, Trace, IsHistory, own, Begins, Grows, IsSettled, bare_replies}
use Rattle.event_timing.specs.{core_accesses, core_pushed, core_values, core_reply, no_outcomes, AreOwnMarks, IsTimed, elements_timed}
use Rattle.event_timing.specs.{FlagsFit, after_run, put, put_at, MayRun, newest, state_next, emit_over, emit_step, Core.Core}
use Rattle.event_timing.proofs.{OwnRuns.own_0, OwnRuns.own_more, Fronts.pushed_same, Fronts.IsDone}
use Rattle.event_timing.proofs.Values.{pushed_in_mono, begins_after}
use Rattle.event_timing.proofs.Growing.{settled_less, settled_old, settled_timed, settled_all, own_grow, reply_grow, there_grow}
use Rattle.event_timing.proofs.Growing.{ended_settled, elements_grow, pops_grow}
use Rattle.event_timing.proofs.Assigning.{plain_possible, can_emitted, RightFlags, SureFlags, HappensFirst}

-- ---- the state after the newest step

pub newest_own : {S : Type 0} → (d : Design S) (x : Core S) → AreOwnMarks d x → (m n : ℕ) → n ≤ x.emitted m
    → state_next d x m n ≡ own d m (core_reply d x m) n
newest_own {S} d x b m zero l = sym (own_0 d m (core_reply d x m))
newest_own {S} d x b m (suc n) l =
    ap (λ (s : S). d.move m s (core_reply d x m n)) (b.own_step m n l) ∙ sym (own_more d m (core_reply d x m) n)

-- ---- the values of a core that has more

pub values_grow : {S : Type 0} → (d : Design S) (x z : Core S) → (ch : ℕ) → x.emitted (d.owner Push ch) ≤ z.emitted (d.owner Push ch)
    → ((k : ℕ) → k < x.emitted (d.owner Push ch) → z.state (d.owner Push ch) k ≡ x.state (d.owner Push ch) k)
    → ((k : ℕ) → k < x.emitted (d.owner Push ch) → z.flags (d.owner Push ch) k ≡ x.flags (d.owner Push ch) k)
    → Begins (core_values d z ch) (core_values d x ch)
values_grow {S} d x z ch l states flags =
    let w : ℕ = d.owner Push ch in
    let (more, longer) = pushed_in_mono ch (core_accesses d z w) (λ j. bare_replies (z.flags w j)) (x.emitted w) (z.emitted w) l in
    let same : core_pushed d z w ch (x.emitted w) ≡ core_pushed d x w ch (x.emitted w) =
    pushed_same (core_accesses d z w) (core_accesses d x w) (λ j. bare_replies (z.flags w j)) (λ j. bare_replies (x.flags w j)) ch
    (x.emitted w)
    (λ k q. ap₂ (λ (p : S) (f : List Bool). values_in ch (d.accesses w p) (bare_replies f)) (states k q) (flags k q)) in
    begins_after (d.inputs ch) (core_pushed d z w ch (z.emitted w)) (core_pushed d x w ch (x.emitted w))
    (more, longer ∙ ap (λ (p : List ℕ). p ++ more) same)

-- ---- the core with one step more

abbrev pub emit : {S : Type 0} → Design S → Core S → ℕ → Core S
emit {S} d x m = emit_step d x m (newest d x m)

pub emit_up : {S : Type 0} → (x : Core S) (m n : ℕ) → x.emitted n ≤ put x.emitted m (suc (x.emitted m)) n
emit_up {S} x m n = grind (arith, nat_tests)

-- at a step that was there nothing changes
pub old_at : {S : Type 0} → {A : Type 0} → (f : ℕ → ℕ → A) (x : Core S) (m : ℕ) (y : A) (n k : ℕ) → k < x.emitted n
    → put_at f m (x.emitted m) y n k ≡ f n k
old_at {S} f x m y n k l = grind (arith, nat_tests)

pub emit_grows : {S : Type 0} → (d : Design S) (x : Core S) (m : ℕ) → Grows d x (emit d x m)
emit_grows {S} d x m =
    let state = λ (n k : ℕ) (l : k < x.emitted n). old_at x.state x m (ready d m (newest d x m)) n k l in
    let flags = λ (n k : ℕ) (l : k < x.emitted n). old_at x.flags x m (no_outcomes (d.accesses m (ready d m (newest d x m)))) n k l in
    record {
      emitted_up = emit_up x m;
      state_same = state;
      wait_same = λ n k l. old_at x.wait x m _ n k l;
      flags_same = λ n k l a. flags n k l;
      answered_up = λ n k l a. grind (arith, nat_tests);
      values_up = λ ch. values_grow d x (emit d x m) ch (emit_up x m (d.owner Push ch)) (state (d.owner Push ch)) (flags (d.owner Push ch));
    }

-- ---- its marks

no_outcomes_fit : (xs : List Access) → FlagsFit xs (no_outcomes xs)
no_outcomes_fit [] = tt
no_outcomes_fit (a ∷ xs) = (λ e. e, no_outcomes_fit xs)

module _ {S : Type 0} (d : Design S) (x : Core S) (b : AreOwnMarks d x) (m : ℕ) where
  emit_fit : (n k : ℕ) → k < (emit d x m).emitted n → FlagsFit (core_accesses d (emit d x m) n k) ((emit d x m).flags n k)
  emit_fit n k l = grind (arith, nat_tests, b.fit n k, no_outcomes_fit (d.accesses m (ready d m (newest d x m))))

  emit_unanswered : (n k : ℕ) → k < (emit d x m).emitted n → (emit d x m).answered n k ≡ false
      → (emit d x m).flags n k ≡ no_outcomes (core_accesses d (emit d x m) n k)
  emit_unanswered n k l a = grind (arith, nat_tests, b.unanswered n k)

  -- the replies to the steps before a step that was there are the same
  own_old : (n k : ℕ) → k < x.emitted n → own d n (core_reply d (emit d x m) n) k ≡ own d n (core_reply d x n) k
  own_old n k l = own_grow d x (emit d x m) (emit_grows d x m) n k (settled_old d x b n k l)

module _ {S : Type 0} (d : Design S) (x : Core S) (b : AreOwnMarks d x) (m : ℕ) (r : MayRun d x m) where
  -- a module that may run has each reply
  run_settled : IsSettled d x m (x.emitted m)
  run_settled = settled_all d x b m r.answered r.there

  own_new : own d m (core_reply d (emit d x m) m) (x.emitted m) ≡ newest d x m
  own_new =
      own_grow d x (emit d x m) (emit_grows d x m) m (x.emitted m) run_settled ∙ sym (newest_own d x b m (x.emitted m) (omega arith))

  emit_own_step : (n k : ℕ) → k < (emit d x m).emitted n → (emit d x m).state n k ≡ ready d n (own d n (core_reply d (emit d x m) n) k)
  emit_own_step n k l = grind (arith, nat_tests, b.own_step n k, own_old d x b m n k, own_new)

  emit_own_wait : (n k : ℕ) → k < (emit d x m).emitted n → (emit d x m).wait n k ≡ d.quiet n (own d n (core_reply d (emit d x m) n) k)
  emit_own_wait n k l = grind (arith, nat_tests, b.own_wait n k, own_old d x b m n k, own_new)

  emit_marks : d.is_over m (ready d m (newest d x m)) ≡ false → AreOwnMarks d (emit d x m)
  emit_marks lives =
      let g = emit_grows d x m in
      let z : Core S = emit d x m in
      let s = run_settled in
      let settled = λ (n k : ℕ) (o : x.over n ≡ true) (q : suc k ≡ z.emitted n).
      let l : suc k ≤ x.emitted n = grind (arith, nat_tests, r.lives) in
      settled_less d x n (x.emitted n) (suc k) l (ended_settled d x b n o) in
      record {
        own_step = emit_own_step;
        own_wait = emit_own_wait;
        lives = λ n k l. grind (arith, nat_tests, b.lives n k);
        ended = λ n o. grind (arith, nat_tests, r.lives, b.ended n, own_grow d x z g n (x.emitted n) (ended_settled d x b n o));
        replied = λ n k l. grind (arith, nat_tests, g.answered_up n k, b.replied n k, s.answered k);
        there = λ n k l.
            let less = settled_less d x m (x.emitted m) (suc k) in
            grind (arith, nat_tests, there_grow d x z g n k, settled_old d x b n (suc k), s);
        ended_replied = λ n k o q. grind (arith, nat_tests, r.lives, g.answered_up n k, b.ended_replied n k);
        ended_there = λ n k o q. there_grow d x z g n k (settled n k o q);
        fit = emit_fit d x b m;
        unanswered = emit_unanswered d x b m;
        inside = λ n l. grind (arith, nat_tests, b.inside n, r.inside);
      }

-- ---- its time

module _ {S : Type 0} (d : Design S) (h : Trace S) (i : IsDesign d) (y : IsHistory d h) (limit : ℕ) (x : Core S) (b : AreOwnMarks d x)
    (u : IsTimed d h limit x) (m : ℕ) where
  emit_done : IsDone d h (emit d x m)
  emit_done =
      record {
        within = λ n. omega (arith, u.within n, emit_up x m n);
        steps_then = u.steps_then;
        done_then = u.done_then;
        reply_then = λ n k l. reply_grow d x (emit d x m) (emit_grows d x m) n k (settled_timed d h limit x u n (suc k) l)
            ∙ u.reply_then n k l;
      }

  emit_right : AreOwnMarks d (emit d x m) → (n k : ℕ) → k < (emit d x m).emitted n → k ≡ x.timed n → RightFlags d h (emit d x m) n k
  emit_right b1 n k l e l1 v c s q =
      let can = can_emitted d h i y (emit d x m) b1 emit_done n c k l (omega arith) s q in
      let plain = plain_possible d h c (core_accesses d (emit d x m) n k) ((emit d x m).flags n k) in
      grind (arith, nat_tests, u.first_flags n, plain, b1.fit n k l)

  emit_sure : (n k : ℕ) → k < (emit d x m).emitted n → k ≡ x.timed n → SureFlags d (emit d x m) n k
  emit_sure n k l e l1 v p =
      let g = emit_grows d x m in
      let up : (ch : ℕ) → elements_timed d x ch ≤ elements_timed d (emit d x m) ch =
      λ ch. (omega (arith, elements_grow d h limit x (emit d x m) u g ch)) in
      let still = λ (q : k < x.emitted n). pops_grow d x (emit d x m) g up n k q (settled_old d x b n k q) (x.flags n k) in
      grind (arith, nat_tests, u.first_sure n, still)

  emit_happens : (n k : ℕ) → k < (emit d x m).emitted n → k ≡ x.timed n → HappensFirst d h limit (emit d x m) n k
  emit_happens n k l e l1 v p = grind (arith, nat_tests, u.first_happens n)

  emit_time : AreOwnMarks d (emit d x m) → IsTimed d h limit (emit d x m)
  emit_time b1 =
      let g = emit_grows d x m in
      let z : Core S = emit d x m in
      let t = emit_done in
      record {
        within = t.within;
        steps_then = t.steps_then;
        done_then = t.done_then;
        reply_then = t.reply_then;
        answered_then = λ n k l. g.answered_up n k (omega (arith, u.within n)) (u.answered_then n k l);
        there_then = λ n k l. there_grow d x z g n k (settled_timed d h limit x u n (suc k) l);
        below = u.below;
        first_flags = λ n l. emit_right b1 n (x.timed n) l refl l;
        first_sure = λ n l. emit_sure n (x.timed n) l refl l;
        first_happens = λ n l. emit_happens n (x.timed n) l refl l;
        verified_then = λ n k l. grind (arith, nat_tests, u.within n, u.verified_then n k);
        verified_answered = λ n k l v. grind (arith, nat_tests, u.verified_answered n k);
        later_plain = λ n k q l v. grind (arith, nat_tests, u.later_plain n k q);
      }

-- ---- the core with the module's end

over_marks : {S : Type 0} → (d : Design S) (x : Core S) → AreOwnMarks d x → (m : ℕ) → MayRun d x m
    → d.is_over m (ready d m (newest d x m)) ≡ true → AreOwnMarks d (emit_over x m)
over_marks {S} d x b m r e =
    let here = newest_own d x b m (x.emitted m) (omega arith) in
    grind (arith, nat_tests, b, r)

over_time : {S : Type 0} → (d : Design S) (h : Trace S) (limit : ℕ) (x : Core S) → IsTimed d h limit x → (m : ℕ)
    → IsTimed d h limit (emit_over x m)
over_time {S} d h limit x u m = grind arith

-- ---- either

-- what holds of the core with the end, where the module is over, and else of that with a step, holds after the Run
pub run_cases : {S : Type 0} → (d : Design S) (x : Core S) (m : ℕ) (P : Core S → Type 0)
    → (d.is_over m (ready d m (newest d x m)) ≡ true → P (emit_over x m))
    → (d.is_over m (ready d m (newest d x m)) ≡ false → P (emit d x m)) → P (after_run d x m)
run_cases {S} d x m P over step = grind (arith, over, step)

pub run_marks : {S : Type 0} → (d : Design S) (x : Core S) → AreOwnMarks d x → (m : ℕ) → MayRun d x m → AreOwnMarks d (after_run d x m)
run_marks {S} d x b m r = run_cases d x m (AreOwnMarks d) (over_marks d x b m r) (emit_marks d x b m r)

pub run_time : {S : Type 0} → (d : Design S) (h : Trace S) → IsDesign d → IsHistory d h → (limit : ℕ) (x : Core S) → AreOwnMarks d x
    → IsTimed d h limit x → (m : ℕ) → MayRun d x m → IsTimed d h limit (after_run d x m)
run_time {S} d h i y limit x b u m r =
    run_cases d x m (IsTimed d h limit) (λ e. over_time d h limit x u m) (λ e. emit_time d h i y limit x b u m (emit_marks d x b m r e))
