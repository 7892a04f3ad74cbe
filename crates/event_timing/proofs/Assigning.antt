-- Giving a cycle keeps agreement.
use Rattle.std.proofs.{lemmas.Bool.Decides.nat_tests, lemmas.Bool.both_ways, lemmas.Bool.ltb-true}
use Rattle.std.proofs.Common.{◌≡◌, ℕ, suc, ◌<◌, ◌≤◌, Bool, true, false, List, [], ◌∷◌, length, refl, arith}
use Rattle.flow_word.specs.declared.access.Side.TheVariants.{Pop, Push}
use Rattle.event_timing.specs.{Design, IsDesign, Access, steps, done, Known, known_of, flags_at, after_assign, put, put_at, MayAssign}
use Rattle.event_timing.specs.{Trace, IsHistory, replies, can_all, bare_replies, core_accesses, core_tally, core_values, all_below}
use Rattle.event_timing.specs.{core_reply, values_there, view, has_query, AreOwnMarks, IsTimed, elements_timed, pops_timed, possible_all}
use Rattle.event_timing.specs.{FlagsFit, HappensBefore, Core.Core}
use Rattle.event_timing.proofs.Standing.{step_ready, moves_can, steps_moves}
use Rattle.event_timing.proofs.{OwnRuns.rest_own, OwnRuns.follows, OwnRuns.tally_mono, Fronts.agrees, Fronts.agrees_done, Fronts.IsDone}
use Rattle.event_timing.proofs.{Growing.below_grow, Replying.replies_right, Replying.core_fronts, Sure.new_sure, Sure.sure_values}
use Rattle.event_timing.proofs.Candidate.{candidate_parts, candidate_done, candidate_steps, candidate_ready}

-- ---- functions with one value changed

pub put_same : {A : Type 0} → (f : ℕ → A) (m : ℕ) (y : A) → put f m y m ≡ y
put_same f m y = grind (arith, nat_tests)

pub put_other : {A : Type 0} → (f : ℕ → A) (m : ℕ) (y : A) (n : ℕ) → (n ≡ m → ⊥) → put f m y n ≡ f n
put_other f m y n e = grind (arith, nat_tests)

-- what holds of the new value and of all others holds of each
pub put_cases : (f : ℕ → ℕ) (m y : ℕ) (P : ℕ → ℕ → Type 0) → ((n : ℕ) → (n ≡ m → ⊥) → P n (f n)) → P m y → (n : ℕ) → P n (put f m y n)
put_cases f m y P others new n = grind (arith, nat_tests, others, new)

pub put_at_same : {A : Type 0} → (f : ℕ → ℕ → A) (m k : ℕ) (y : A) → put_at f m k y m k ≡ y
put_at_same f m k y = grind (arith, nat_tests)

pub put_at_other : {A : Type 0} → (f : ℕ → ℕ → A) (m k : ℕ) (y : A) (n j : ℕ) → (n ≡ m → j ≡ k → ⊥) → put_at f m k y n j ≡ f n j
put_at_other f m k y n j other = grind (arith, nat_tests)

-- ---- steps without a query

-- they have no other flags
pub plain_flags : (know : Access → Known) (c : ℕ) (xs : List Access) (bs : List Bool) → has_query xs ≡ false → FlagsFit xs bs
    → bs ≡ flags_at know c xs
plain_flags know c [] [] e f = refl
plain_flags know c [] (b ∷ bs) e f = absurd f
plain_flags know c (a ∷ xs) [] e f = absurd f
plain_flags know c (a ∷ xs) (b ∷ bs) e (f, fs) = grind (arith, plain_flags know c xs bs)

-- and where all that block can be done, these are what is possible
pub plain_possible : {S : Type 0} → (d : Design S) (h : Trace S) (c : ℕ) (xs : List Access) (bs : List Bool) → has_query xs ≡ false
    → can_all d h c xs ≡ true → FlagsFit xs bs → bs ≡ possible_all d h c xs
plain_possible {S} d h c [] [] e g f = refl
plain_possible {S} d h c [] (b ∷ bs) e g f = absurd f
plain_possible {S} d h c (a ∷ xs) [] e g f = absurd f
plain_possible {S} d h c (a ∷ xs) (b ∷ bs) e g (f, fs) = grind (arith, plain_possible d h c xs bs)

-- ---- what agreement says of a verified step, which is the module's first one without a cycle

-- its outcomes are those of the history
abbrev pub RightFlags : {S : Type 0} → Design S → Trace S → Core S → ℕ → ℕ → Type 0
RightFlags {S} d h x n j =
    j < x.emitted n → x.verified n j ≡ true → (c : ℕ) → steps d h c n ≡ true → done d h n c ≡ j
    → x.flags n j ≡ possible_all d h c (core_accesses d x n j)

-- each of its pops has its push among the steps with a cycle
abbrev pub SureFlags : {S : Type 0} → Design S → Core S → ℕ → ℕ → Type 0
SureFlags {S} d x n j =
    j < x.emitted n → x.verified n j ≡ true → has_query (core_accesses d x n j) ≡ true → pops_timed d x n j (x.flags n j) ≡ true

-- the history does it before the limit
abbrev pub HappensFirst : {S : Type 0} → Design S → Trace S → ℕ → Core S → ℕ → ℕ → Type 0
HappensFirst {S} d h limit x n j =
    j < x.emitted n → x.verified n j ≡ true → has_query (core_accesses d x n j) ≡ true → HappensBefore d h limit n j

-- where the history does a step that is emitted, its accesses can be done
pub can_emitted : {S : Type 0} → (d : Design S) (h : Trace S) → IsDesign d → IsHistory d h → (x : Core S) → AreOwnMarks d x → IsDone d h x
    → (m c j : ℕ) → j < x.emitted m → j ≤ x.timed m → steps d h c m ≡ true → done d h m c ≡ j → can_all d h c (core_accesses d x m j) ≡ true
can_emitted {S} d h i y x b t m c j l q s k =
    let by_steps = rest_own d h i y m (core_reply d x m) c (follows d h (view d x) (agrees_done d h x b t) m c (omega arith)) in
    grind (arith, step_ready d h i y m c s, b.own_step m j l, moves_can d h c m (steps_moves d h c m s))

-- ---- the step that gets its cycle

record Assigned {S : Type 0} (d : Design S) (h : Trace S) (limit : ℕ) (x : Core S) (m c : ℕ) : Type 0 where
  emitted : x.timed m < x.emitted m
  steps_now : steps d h c m ≡ true
  done_now : done d h m c ≡ x.timed m
  reply_now : core_reply d x m (x.timed m) ≡ replies d h c m
  there_now : values_there d x m (x.timed m) ≡ true

module _ {S : Type 0} (d : Design S) (h : Trace S) (i : IsDesign d) (y : IsHistory d h) (limit : ℕ) (x : Core S) (b : AreOwnMarks d x)
    (u : IsTimed d h limit x) (m c : ℕ) (may : MayAssign d limit x m c) where
  -- its accesses, its flags, and how many elements were popped before it
  abbrev asked : List Access
  asked = core_accesses d x m (x.timed m)

  abbrev found : List Bool
  found = x.flags m (x.timed m)

  abbrev popped : ℕ → ℕ
  popped ch = core_tally d x m Pop ch (x.timed m)

  is_emitted : x.timed m < x.emitted m
  is_emitted = ltb-true (x.timed m) (x.emitted m) (candidate_parts d (view d x) m c may.determined.at).0

  pops_sure : pops_timed d x m (x.timed m) found ≡ true
  pops_sure =
      let new = new_sure d i x m c may.determined.at in
      let plain = plain_flags (known_of d (view d x) m) c asked found in
      grind (arith, u.first_sure m is_emitted may.verified, b.fit m (x.timed m) is_emitted)

  is_told : steps d h c m ≡ true → done d h m c ≡ x.timed m → core_reply d x m (x.timed m) ≡ replies d h c m
  unfolding replies
  is_told s k =
      let right = u.first_flags m is_emitted may.verified c s k in
      let sure : all_below (elements_timed d x) popped asked (possible_all d h c asked) ≡ true = rw (← right) pops_sure in
      let fronts = core_fronts d h i y limit x b u m c k asked (i.owned m (x.state m (x.timed m))) in
      let told = replies_right d h c (elements_timed d x) (core_values d x) popped asked fronts sure in
      let now = candidate_ready d h i y (view d x) (agrees d h limit x b u) m c may.determined.at in
      grind (arith, b.own_step m (x.timed m) is_emitted)

  assigned : Assigned d h limit x m c
  assigned =
      let g = agrees d h limit x b u in
      let s = candidate_steps d h i y (view d x) g m c may.determined.at in
      let k = candidate_done d h i y (view d x) g m c may.determined.at in
      record {
        emitted = is_emitted;
        steps_now = s;
        done_now = k;
        reply_now = is_told s k;
        there_now =
            below_grow (elements_timed d x) (λ ch. length (core_values d x ch)) popped popped asked found (sure_values d h i limit x u)
            (λ ch. refl)
            pops_sure;
      }

-- ---- the core after it

pub assign_marks : {S : Type 0} → (d : Design S) (x : Core S) (m c : ℕ) → AreOwnMarks d x → AreOwnMarks d (after_assign x m c)
assign_marks {S} d x m c b = grind arith

-- what holds of the steps with a cycle, and of the new one, holds of all that have one now
step_more : {S : Type 0} → (x : Core S) (m c : ℕ) (P : ℕ → ℕ → ℕ → Type 0) → ((n k : ℕ) → k < x.timed n → P n k (x.cycle n k))
    → P m (x.timed m) c → (n k : ℕ) → k < (after_assign x m c).timed n → P n k ((after_assign x m c).cycle n k)
step_more {S} x m c P old new n k l = grind (arith, nat_tests, old n k, new)

timed_up : {S : Type 0} → (x : Core S) (m n : ℕ) → x.timed n ≤ put x.timed m (suc (x.timed m)) n
timed_up {S} x m n = grind (arith, nat_tests)

module _ {S : Type 0} (d : Design S) (h : Trace S) (limit : ℕ) (x : Core S) (u : IsTimed d h limit x) (m c : ℕ)
    (w : Assigned d h limit x m c) where
  assign_within : (n : ℕ) → (after_assign x m c).timed n ≤ x.emitted n
  assign_within n = grind (arith, nat_tests, w.emitted, u.within n)

  assign_done : IsDone d h (after_assign x m c)
  assign_done =
      record {
        within = assign_within;
        steps_then = step_more x m c (λ n k z. steps d h z n ≡ true) u.steps_then w.steps_now;
        done_then = step_more x m c (λ n k z. done d h n z ≡ k) u.done_then w.done_now;
        reply_then = step_more x m c (λ n k z. core_reply d x n k ≡ replies d h z n) u.reply_then w.reply_now;
      }

  -- more elements have a push with a cycle
  elements_up : (ch : ℕ) → elements_timed d x ch ≤ elements_timed d (after_assign x m c) ch
  elements_up ch =
      let o : ℕ = d.owner Push ch in
      omega (
        arith,
        tally_mono (core_accesses d x o) (λ j. bare_replies (x.flags o j)) Push ch (x.timed o)
            (put x.timed m (suc (x.timed m)) o) (timed_up x m o),
      )

  -- the step after the new one, if it counts as verified, has no query
  next_plain : suc (x.timed m) < x.emitted m → x.verified m (suc (x.timed m)) ≡ true
      → has_query (core_accesses d x m (suc (x.timed m))) ≡ false
  next_plain l v = u.later_plain m (suc (x.timed m)) (omega arith) l v

  sure_still : (n : ℕ) → SureFlags d (after_assign x m c) n ((after_assign x m c).timed n)
  sure_still =
      put_cases x.timed m (suc (x.timed m)) (SureFlags d (after_assign x m c))
      (λ n e l v q.
      let before = λ (ch : ℕ). core_tally d x n Pop ch (x.timed n) in
      below_grow (elements_timed d x) (elements_timed d (after_assign x m c)) before before (core_accesses d x n (x.timed n))
      (x.flags n (x.timed n))
      elements_up (λ ch. refl) (u.first_sure n l v q))
      (λ l v q. absurd (both_ways _ (next_plain l v) q))

  happens_still : (n : ℕ) → HappensFirst d h limit x n ((after_assign x m c).timed n)
  happens_still n l v q = grind (arith, nat_tests, u.first_happens n, next_plain)

module _ {S : Type 0} (d : Design S) (h : Trace S) (i : IsDesign d) (y : IsHistory d h) (limit : ℕ) (x : Core S) (b : AreOwnMarks d x)
    (u : IsTimed d h limit x) (m c : ℕ) where
  right_next : Assigned d h limit x m c → RightFlags d h x m (suc (x.timed m))
  right_next w l v e s k =
      let next : ℕ = suc (x.timed m) in
      let timed : next ≤ (after_assign x m c).timed m = rw (put_same x.timed m next) (omega arith) in
      let can = can_emitted d h i y (after_assign x m c) (assign_marks d x m c b) (assign_done d h limit x u m c w) m e next l timed s k in
      plain_possible d h e (core_accesses d x m next) (x.flags m next) (next_plain d h limit x u m c w l v) can (b.fit m next l)

  pub assign_time : MayAssign d limit x m c → IsTimed d h limit (after_assign x m c)
  assign_time may =
      let w = assigned d h i y limit x b u m c may in
      let t = assign_done d h limit x u m c w in
      record {
        within = t.within;
        steps_then = t.steps_then;
        done_then = t.done_then;
        reply_then = t.reply_then;
        answered_then =
            step_more x m c (λ n k z. x.answered n k ≡ true) u.answered_then (u.verified_answered m (x.timed m) w.emitted may.verified);
        there_then = step_more x m c (λ n k z. values_there d x n k ≡ true) u.there_then w.there_now;
        below = step_more x m c (λ n k z. z < limit) u.below may.determined.below;
        first_flags = put_cases x.timed m (suc (x.timed m)) (RightFlags d h x) (λ n e. u.first_flags n) (right_next w);
        first_sure = sure_still d h limit x u m c w;
        first_happens = happens_still d h limit x u m c w;
        verified_then = step_more x m c (λ n k z. x.verified n k ≡ true) u.verified_then may.verified;
        verified_answered = u.verified_answered;
        later_plain = λ n k l. u.later_plain n k (omega (arith, timed_up x m n));
      }
