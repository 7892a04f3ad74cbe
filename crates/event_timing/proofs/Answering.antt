-- Verified outcomes keep agreement.
use Rattle.std.proofs.lemmas.Bool.Decides.{nat_tests}
use Rattle.std.proofs.Common.{◌≡◌, ℕ, suc, ◌<◌, ◌≤◌, Bool, true, false, cond, ◌||◌, inl, inr, List, [], ◌∷◌, ◌++◌, sym, refl, ap, ap₂, ◌∙◌}
use Rattle.std.proofs.Common.{arith, Some, append-nil}
use Rattle.std.proofs.lemmas.Bool.{cases_Bool, cases_eq, ltb-true, or_left}
use Rattle.flow_word.specs.declared.access.Side.TheVariants.{Push}
use Rattle.event_timing.specs.{Design, IsDesign, Access, Reply, ready, values_in, took, takes_at, takers, Trace, IsHistory, steps, done}
use Rattle.event_timing.specs.{Begins, Grows, Known, known_of, answer, flags_at, candidate, bare_replies, core_accesses, core_pushed}
use Rattle.event_timing.specs.{core_values, view, no_outcomes, AreOwnMarks, IsTimed, elements_timed, possible_all, FlagsFit, HappensBefore}
use Rattle.event_timing.specs.{after_answer, new_flags, IsSame, Core.Core}
use Rattle.event_timing.proofs.{Steps.same_clock, Values.begins_self, Values.begins_after, Values.pushed_in_more, Values.not_taken}
use Rattle.event_timing.proofs.{Candidate.candidate_parts, Candidate.candidate_steps, Candidate.candidate_done, Fronts.agrees}
use Rattle.event_timing.proofs.{Fronts.pushed_same, Growing.settled_less, Growing.settled_old, Growing.settled_timed, Growing.own_grow}
use Rattle.event_timing.proofs.{Growing.reply_grow, Growing.there_grow, Growing.ended_settled, Growing.elements_grow, Growing.pops_grow}
use Rattle.event_timing.proofs.{Assigning.put_at_same, Assigning.RightFlags, Assigning.SureFlags, Sure.new_sure, Running.values_grow}

-- ---- an outcome adds pushes after those that are there

no_takers : (ch : ℕ) (xs : List Access) (rs : List Reply) → takers Push ch xs ≡ 0 → values_in ch xs rs ≡ []
no_takers ch [] rs e = refl
no_takers ch (a ∷ xs) [] e = refl
no_takers ch (a ∷ xs) (r ∷ rs) e = grind (arith, not_taken Push ch a r, no_takers ch xs rs)

module _ (ch : ℕ) (know : Access → Known) (c : ℕ) where
  -- what these accesses push, by what is found, and as long as there is no outcome
  abbrev with_outcomes : List Access → List ℕ
  with_outcomes xs = values_in ch xs (bare_replies (flags_at know c xs))

  abbrev without : List Access → List ℕ
  without xs = values_in ch xs (bare_replies (no_outcomes xs))

  -- what one of them pushes, if it is done or not
  abbrev pushed : Access → Bool → List ℕ
  pushed a is_done = cond (took Push ch a (record { possible = is_done; front = 0 })) (a.value ∷ []) []

  abbrev found : Access → Bool
  found a = a.blocks || answer (know a) c

  pushes_nothing : (a : Access) (is_done : Bool) → takes_at Push ch a ≡ false → pushed a is_done ≡ []
  pushes_nothing a is_done none = grind arith

  not_done : (a : Access) → a.blocks ≡ false → pushed a a.blocks ≡ []
  not_done a free = grind arith

  after_other : (a : Access) (xs : List Access) → takes_at Push ch a ≡ false → Begins (with_outcomes xs) (without xs)
      → Begins (with_outcomes (a ∷ xs)) (without (a ∷ xs))
  after_other a xs none (more, e) = (more, grind (arith, pushes_nothing a (found a), pushes_nothing a a.blocks))

  -- the one access that pushes here
  the_push : (a : Access) (xs : List Access) → with_outcomes xs ≡ [] → without xs ≡ [] → Begins (with_outcomes (a ∷ xs)) (without (a ∷ xs))
  the_push a xs n1 n2 =
      elim (cases_Bool a.blocks) [
        | inl blocks ↦ ([], grind (arith, append-nil))
        | inr free ↦ (_, sym (ap₂ (λ (z zs : List ℕ). (z ++ zs) ++ (pushed a (found a) ++ with_outcomes xs)) (not_done a free) n2))
      ]

  more_values : (xs : List Access) → takers Push ch xs ≤ 1 → Begins (with_outcomes xs) (without xs)
  more_values [] l = begins_self []
  more_values (a ∷ xs) l =
      elim (cases_Bool (takes_at Push ch a)) [
        | inr none ↦ after_other a xs none (more_values xs (grind arith))
        | inl takes ↦
            the_push a xs (no_takers ch xs (bare_replies (flags_at know c xs)) (grind arith))
            (no_takers ch xs (bare_replies (no_outcomes xs)) (grind arith))
      ]

-- ---- the core after it

flags_at_fit : (know : Access → Known) (c : ℕ) (xs : List Access) → FlagsFit xs (flags_at know c xs)
flags_at_fit know c [] = tt
flags_at_fit know c (a ∷ xs) = (λ e. or_left a.blocks (answer (know a) c) e, flags_at_fit know c xs)

pub first_emitted : {S : Type 0} → (d : Design S) (x : Core S) (m c : ℕ) → candidate d (view d x) m ≡ Some c → x.timed m < x.emitted m
first_emitted {S} d x m c e = ltb-true (x.timed m) (x.emitted m) (candidate_parts d (view d x) m c e).0

module _ {S : Type 0} (d : Design S) (x : Core S) (m c : ℕ) where
  -- recorded outcomes are found again
  flags_again : IsSame d x m c → (n k : ℕ) → x.answered n k ≡ true → (after_answer d x m c).flags n k ≡ x.flags n k
  flags_again same n k a = grind (arith, nat_tests, same)

  pub answer_answered : (n k : ℕ) → x.answered n k ≡ true → (after_answer d x m c).answered n k ≡ true
  answer_answered n k a = grind (arith, nat_tests)

-- ---- its values

module _ {S : Type 0} (d : Design S) (i : IsDesign d) (x : Core S) (b : AreOwnMarks d x) (m c : ℕ) (l : x.timed m < x.emitted m) where
  abbrev after : Core S
  after = after_answer d x m c

  abbrev asked : List Access
  asked = core_accesses d x m (x.timed m)

  module _ (open_step : x.answered m (x.timed m) ≡ false) where
    -- a step without outcomes is the newest
    is_newest : x.emitted m ≡ suc (x.timed m)
    is_newest = grind (arith, b.replied m (x.timed m))

    pushed_before : (ch : ℕ) → core_pushed d after m ch (x.timed m) ≡ core_pushed d x m ch (x.timed m)
    pushed_before ch =
        pushed_same (core_accesses d after m) (core_accesses d x m) (λ j. bare_replies (after.flags m j))
        (λ j. bare_replies (x.flags m j)) ch (x.timed m)
        (λ k q. grind (arith, nat_tests))

    pushed_now : (ch : ℕ)
        → core_pushed d after m ch (suc (x.timed m)) ≡ core_pushed d x m ch (x.timed m)
        ++ values_in ch asked (bare_replies (new_flags d x m c))
    pushed_now ch =
        rw (
          pushed_in_more ch (core_accesses d after m) (λ j. bare_replies (after.flags m j)) (x.timed m),
          pushed_before ch,
          put_at_same x.flags m (x.timed m) (new_flags d x m c),
        ) refl

    pushed_then : (ch : ℕ)
        → core_pushed d x m ch (suc (x.timed m)) ≡ core_pushed d x m ch (x.timed m) ++ values_in ch asked (bare_replies (no_outcomes asked))
    pushed_then ch =
        let more = pushed_in_more ch (core_accesses d x m) (λ j. bare_replies (x.flags m j)) (x.timed m) in
        rw (more, b.unanswered m (x.timed m) l open_step) refl

    pushed_more : (ch : ℕ) → Begins (core_pushed d after m ch (suc (x.timed m))) (core_pushed d x m ch (suc (x.timed m)))
    pushed_more ch =
        let one = i.single Push m (x.state m (x.timed m)) ch in
        rw (pushed_now ch, pushed_then ch)
        (begins_after (core_pushed d x m ch (x.timed m)) (values_in ch asked (bare_replies (new_flags d x m c)))
        (values_in ch asked (bare_replies (no_outcomes asked))) (more_values ch (known_of d (view d x) m) c asked one))

    values_here : (ch : ℕ) → d.owner Push ch ≡ m → Begins (core_values d after ch) (core_values d x ch)
    values_here ch owned =
        let w : ℕ = d.owner Push ch in
        begins_after (d.inputs ch) (core_pushed d after w ch (x.emitted w)) (core_pushed d x w ch (x.emitted w))
        (rw (owned, is_newest) (pushed_more ch))

  answer_values : IsSame d x m c → (ch : ℕ) → Begins (core_values d after ch) (core_values d x ch)
  answer_values same ch =
      let still = values_grow d x after ch (omega arith) (λ k q. refl) in
      elim (cases_Bool (x.answered m (x.timed m))) [
        | inl a ↦ still (λ k q. grind (arith, nat_tests, same))
        | inr a ↦ elim (cases_eq (d.owner Push ch) m) [
          | inl owned ↦ values_here a ch owned
          | inr other ↦ still (λ k q. grind (arith, nat_tests))
        ]
      ]

  pub answer_grows : IsSame d x m c → Grows d x (after_answer d x m c)
  answer_grows same =
      record {
        emitted_up = λ n. omega arith;
        state_same = λ n k q. refl;
        wait_same = λ n k q. refl;
        flags_same = λ n k q. flags_again d x m c same n k;
        answered_up = λ n k q. answer_answered d x m c n k;
        values_up = answer_values same;
      }

  -- ---- its marks

  answer_unanswered : (n k : ℕ) → k < x.emitted n → after.answered n k ≡ false → after.flags n k ≡ no_outcomes (core_accesses d x n k)
  answer_unanswered n k q a = grind (arith, nat_tests, b.unanswered n k)

  pub answer_marks : IsSame d x m c → AreOwnMarks d (after_answer d x m c)
  answer_marks same =
      let g = answer_grows same in
      let old = λ (n k : ℕ) (q : k < x.emitted n). sym (own_grow d x after g n k (settled_old d x b n k q)) in
      record {
        own_step = λ n k q. b.own_step n k q ∙ ap (ready d n) (old n k q);
        own_wait = λ n k q. b.own_wait n k q ∙ ap (d.quiet n) (old n k q);
        lives = b.lives;
        ended = λ n o. rw (own_grow d x after g n (x.emitted n) (ended_settled d x b n o)) (b.ended n o);
        replied = λ n k q. answer_answered d x m c n k (b.replied n k q);
        there = λ n k q. there_grow d x after g n k (settled_old d x b n (suc k) q);
        ended_replied = λ n k o q. answer_answered d x m c n k (b.ended_replied n k o q);
        ended_there = λ n k o q. there_grow d x after g n k
            (settled_less d x n (x.emitted n) (suc k) (omega arith) (ended_settled d x b n o));
        fit = λ n k q. grind (arith, nat_tests, b.fit n k q, flags_at_fit (known_of d (view d x) m) c asked);
        unanswered = answer_unanswered;
        inside = b.inside;
      }

-- ---- its time

module _ {S : Type 0} (d : Design S) (h : Trace S) (i : IsDesign d) (limit : ℕ) (x : Core S) (b : AreOwnMarks d x) (u : IsTimed d h limit x)
    (m c : ℕ) (e : candidate d (view d x) m ≡ Some c) (same : IsSame d x m c) where
  grows : Grows d x (after_answer d x m c)
  grows = answer_grows d i x b m c (first_emitted d x m c e) same

  elements_up : (ch : ℕ) → elements_timed d x ch ≤ elements_timed d (after_answer d x m c) ch
  elements_up ch = omega (arith, elements_grow d h limit x (after_answer d x m c) u grows ch)

  -- the flags are the history's where they were, and so are those that are found
  answer_right : steps d h c m ≡ true → done d h m c ≡ x.timed m → new_flags d x m c ≡ possible_all d h c (core_accesses d x m (x.timed m))
      → (n k : ℕ) → k ≡ x.timed n → RightFlags d h (after_answer d x m c) n k
  answer_right st dn right n k q l v z s j =
      grind (arith, nat_tests, right, u.first_flags n, same_clock d h m c z st)

  answer_sure : (n k : ℕ) → k ≡ x.timed n → SureFlags d (after_answer d x m c) n k
  answer_sure n k q l v p =
      let still = pops_grow d x (after_answer d x m c) grows elements_up n k l (settled_old d x b n k l) in
      grind (arith, nat_tests, still (x.flags n k), still (new_flags d x m c), u.first_sure n, new_sure d i x m c e)

pub answer_time : {S : Type 0} → (d : Design S) (h : Trace S) → IsDesign d → IsHistory d h → (limit : ℕ) (x : Core S) → AreOwnMarks d x
    → IsTimed d h limit x → (m c : ℕ) → candidate d (view d x) m ≡ Some c
    → new_flags d x m c ≡ possible_all d h c (core_accesses d x m (x.timed m)) → IsSame d x m c → c < limit
    → IsTimed d h limit (after_answer d x m c)
answer_time {S} d h i y limit x b u m c e right same below =
    let z : Core S = after_answer d x m c in
    let g = grows d h i limit x b u m c e same in
    let a = agrees d h limit x b u in
    let st = candidate_steps d h i y (view d x) a m c e in
    let dn = candidate_done d h i y (view d x) a m c e in
    let here : HappensBefore d h limit m (x.timed m) = (c, below, (st, dn)) in
    record {
      within = u.within;
      steps_then = u.steps_then;
      done_then = u.done_then;
      reply_then = λ n k q. reply_grow d x z g n k (settled_timed d h limit x u n (suc k) q) ∙ u.reply_then n k q;
      answered_then = λ n k q. answer_answered d x m c n k (u.answered_then n k q);
      there_then = λ n k q. there_grow d x z g n k (settled_timed d h limit x u n (suc k) q);
      below = u.below;
      first_flags = λ n. answer_right d h i limit x b u m c e same st dn right n (x.timed n) refl;
      first_sure = λ n. answer_sure d h i limit x b u m c e same n (x.timed n) refl;
      first_happens = λ n l v p. grind (arith, nat_tests, here, u.first_happens n);
      verified_then = λ n k q. grind (arith, nat_tests, u.verified_then n k);
      verified_answered = λ n k q v. grind (arith, nat_tests, u.verified_answered n k);
      later_plain = λ n k p q v. grind (arith, nat_tests, u.later_plain n k);
    }
