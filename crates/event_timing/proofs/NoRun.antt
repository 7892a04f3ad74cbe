-- An edit that finds only recorded outcomes permits no Run.
use Rattle.std.proofs.lemmas.Bool.Decides.{nat_tests}
use Rattle.std.proofs.Common.{◌≡◌, ℕ, true, ◌⊎◌, List, [], ◌∷◌, sym, refl, arith, Some}
use Rattle.flow_word.specs.declared.access.Side.TheVariants.{Push}
use Rattle.event_timing.specs.{Design, IsDesign, candidate, view, AreOwnMarks, IsAgreed, edited, after_edit, Grows, Trace, IsHistory}
use Rattle.event_timing.specs.{MayRun, after_assign, after_answer, IsSame, Action, Acts, IsRecorded, ActsRecorded, Core.Core}
use Rattle.event_timing.proofs.{Running.values_grow, RunningAhead.stays, Agreement.acts_agree}
use Rattle.event_timing.proofs.Answering.{answer_marks, first_emitted}

pub edit_no_run : {S : Type 0} → (d : Design S) (x : Core S) (fifo depth t m : ℕ) → MayRun (edited d fifo depth) (after_edit d x t) m
    → MayRun d x m
edit_no_run {S} d x fifo depth t m r = grind arith

assign_no_run : {S : Type 0} → (d : Design S) (x : Core S) (m n c : ℕ) → MayRun d (after_assign x n c) m → MayRun d x m
assign_no_run {S} d x m n c r = grind arith

-- an outcome that was recorded already changes no reply
shrinks : {S : Type 0} → (d : Design S) (x : Core S) (n c : ℕ) → x.answered n (x.timed n) ≡ true → IsSame d x n c
    → Grows d (after_answer d x n c) x
shrinks {S} d x n c a s =
    let same : (m k : ℕ) → (after_answer d x n c).flags m k ≡ x.flags m k = λ m k. grind (arith, nat_tests, s) in
    record {
      emitted_up = λ m. omega arith;
      state_same = λ m k l. refl;
      wait_same = λ m k l. refl;
      flags_same = λ m k l v. sym (same m k);
      answered_up = λ m k l v. grind (arith, nat_tests);
      values_up = λ ch. values_grow d (after_answer d x n c) x ch (omega arith) (λ k l. refl) (λ k l. sym (same (d.owner Push ch) k));
    }

answer_no_run : {S : Type 0} → (d : Design S) → IsDesign d → (x : Core S) → AreOwnMarks d x → (m n c : ℕ)
    → candidate d (view d x) n ≡ Some c
    → x.answered n (x.timed n) ≡ true → IsSame d x n c → MayRun d (after_answer d x n c) m → MayRun d x m
answer_no_run {S} d i x b m n c e a s r =
    stays d (after_answer d x n c) x (answer_marks d i x b n c (first_emitted d x n c e) s) (shrinks d x n c a s) m refl refl r

answered_no_run : {S : Type 0} → (d : Design S) → IsDesign d → (x : Core S) → AreOwnMarks d x → (n c : ℕ)
    → candidate d (view d x) n ≡ Some c
    → x.answered n (x.timed n) ≡ true → (z : Core S) → (IsSame d x n c × (z ≡ after_answer d x n c)) ⊎ ((IsSame d x n c → ⊥) × (z ≡ x))
    → (m : ℕ) → MayRun d z m → MayRun d x m
answered_no_run {S} d i x b n c e a z w m r = grind (arith, answer_no_run d i x b m n c e a)

-- an action that meets recorded outcomes permits no Run that was not permitted
acts_no_run : {S : Type 0} → (d : Design S) → IsDesign d → (limit : ℕ) (x : Core S) → AreOwnMarks d x → ((m : ℕ) → MayRun d x m → ⊥)
    → (a : Action) → IsRecorded x a → (z : Core S) → Acts d limit x a z → (m : ℕ) → MayRun d z m → ⊥
acts_no_run {S} d i limit x b f (Action.Run n) o z (p, e) m r = f n p
acts_no_run {S} d i limit x b f (Action.Assign n) o z (c, p, e) m r = f m (assign_no_run d x m n c (rw e at r))
acts_no_run {S} d i limit x b f (Action.Answer n) o z (c, p, e) m r = f m (answered_no_run d i x b n c p.determined.at o z e m r)
acts_no_run {S} d i limit x b f (Action.Earliest n) o z (c, p, e) m r =
    f m (answered_no_run d i x b n c p.open_step.determined.at o z e m r)

pub recorded_no_run : {S : Type 0} → (d : Design S) (h : Trace S) → IsDesign d → IsHistory d h → (limit : ℕ) (x : Core S)
    → IsAgreed d h limit x
    → ((m : ℕ) → MayRun d x m → ⊥) → (actions : List Action) (z : Core S) → ActsRecorded d limit x actions z → (m : ℕ) → MayRun d z m → ⊥
recorded_no_run {S} d h i y limit x g f [] z e = λ m r. f m (rw e at r)
recorded_no_run {S} d h i y limit x g f (a ∷ more) z (w, s, o, t) =
    recorded_no_run d h i y limit w (acts_agree d h i y limit x g a w s) (acts_no_run d i limit x g.marks f a o w s) more z t
