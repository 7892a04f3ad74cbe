-- Actions let the core grow, and those without a Run of a module leave the module's marks as they were.
use Rattle.std.proofs.{lemmas.Bool.Decides.nat_tests, lemmas.Bool.cases_eq}
use Rattle.std.proofs.Common.{◌≡◌, refl, ap, ◌∙◌, ℕ, zero, suc, ◌⊎◌, inl, inr, Some, List, [], ◌∷◌, arith, ◌<◌, ◌≤◌}
use Rattle.flow_word.specs.declared.access.Side.TheVariants.{Push}
use Rattle.event_timing.specs.{Design, IsDesign, ready, Trace, IsHistory, Begins, candidate, AreOwnMarks, IsAgreed, Grows, GrowsBeside}
use Rattle.event_timing.specs.{bare_replies, core_accesses, core_values, view, Action, Acts, ActsAll, MayRun, after_run, after_assign}
use Rattle.event_timing.specs.{after_answer, emit_over, newest, IsSame, IsNoRunOf, runs, Core.Core}
use Rattle.event_timing.proofs.{Agreement.acts_agree, Agreement.all_agree, Assigning.put_other, Fronts.pushed_same, Growing.settled_all}
use Rattle.event_timing.proofs.{RunningAhead.stays, RunningAhead.newest_stays, Values.begins_self, Values.begins_trans}
use Rattle.event_timing.proofs.Answering.{answer_grows, first_emitted}
use Rattle.event_timing.proofs.Running.{emit, emit_grows, values_grow, run_marks, run_cases}

pub grows_self : {S : Type 0} → (d : Design S) (x : Core S) → Grows d x x
grows_self {S} d x = grind (arith, begins_self)

pub grows_trans : {S : Type 0} → (d : Design S) (x y z : Core S) → Grows d x y → Grows d y z → Grows d x z
grows_trans {S} d x y z g k =
    record {
      emitted_up = λ n. omega (arith, g.emitted_up n, k.emitted_up n);
      state_same = λ n j l. k.state_same n j (omega (arith, g.emitted_up n)) ∙ g.state_same n j l;
      wait_same = λ n j l. k.wait_same n j (omega (arith, g.emitted_up n)) ∙ g.wait_same n j l;
      flags_same = λ n j l a. k.flags_same n j (omega (arith, g.emitted_up n)) (g.answered_up n j l a) ∙ g.flags_same n j l a;
      answered_up = λ n j l a. k.answered_up n j (omega (arith, g.emitted_up n)) (g.answered_up n j l a);
      values_up = λ ch. begins_trans (core_values d z ch) (core_values d y ch) (core_values d x ch) (k.values_up ch) (g.values_up ch);
    }

-- ---- one action

over_grows : {S : Type 0} → (d : Design S) (x : Core S) (n : ℕ) → Grows d x (emit_over x n)
over_grows {S} d x n = let g = grows_self d x in grind arith

pub assign_grows : {S : Type 0} → (d : Design S) (x : Core S) (n c : ℕ) → Grows d x (after_assign x n c)
assign_grows {S} d x n c = let g = grows_self d x in grind arith

pub run_grows : {S : Type 0} → (d : Design S) (x : Core S) (m : ℕ) → Grows d x (after_run d x m)
run_grows {S} d x m = run_cases d x m (Grows d x) (λ e. over_grows d x m) (λ e. emit_grows d x m)

found_grows : {S : Type 0} → (d : Design S) → IsDesign d → (x : Core S) → AreOwnMarks d x → (n c : ℕ)
    → candidate d (view d x) n ≡ Some c → (z : Core S)
    → (IsSame d x n c × (z ≡ after_answer d x n c)) ⊎ ((IsSame d x n c → ⊥) × (z ≡ x)) → Grows d x z
found_grows {S} d i x b n c e z w = grind (arith, answer_grows d i x b n c (first_emitted d x n c e), grows_self d x)

pub acts_grow : {S : Type 0} → (d : Design S) → IsDesign d → (limit : ℕ) (x : Core S) → AreOwnMarks d x → (a : Action) (z : Core S)
    → Acts d limit x a z → Grows d x z
acts_grow {S} d i limit x b (Action.Run n) z (p, e) = grind (arith, run_grows d x n)
acts_grow {S} d i limit x b (Action.Assign n) z (c, p, e) = grind (arith, assign_grows d x n c)
acts_grow {S} d i limit x b (Action.Answer n) z (c, p, e) = found_grows d i x b n c p.determined.at z e
acts_grow {S} d i limit x b (Action.Earliest n) z (c, p, e) = found_grows d i x b n c p.open_step.determined.at z e

-- the module's marks are as they were
record SameMarks {S : Type 0} (x z : Core S) (m : ℕ) : Type 0 where
  emitted : z.emitted m ≡ x.emitted m
  over : z.over m ≡ x.over m

run_same : {S : Type 0} → (d : Design S) (x : Core S) (m n : ℕ) → (m ≡ n → ⊥) → SameMarks x (after_run d x n) m
run_same {S} d x m n o = grind (arith, nat_tests)

acts_same : {S : Type 0} → (d : Design S) (limit : ℕ) (x : Core S) (m : ℕ) (a : Action) → IsNoRunOf m (a ∷ []) → (z : Core S)
    → Acts d limit x a z → SameMarks x z m
acts_same {S} d limit x m (Action.Run n) (o, u) z (p, e) = grind (arith, run_same d x m n o)
acts_same {S} d limit x m (Action.Assign n) o z (c, p, e) = grind arith
acts_same {S} d limit x m (Action.Answer n) o z (c, p, e) = grind arith
acts_same {S} d limit x m (Action.Earliest n) o z (c, p, e) = grind arith

pub beside_self : {S : Type 0} → (d : Design S) (x : Core S) (m : ℕ) → GrowsBeside d x x m
beside_self {S} d x m = record { grows = grows_self d x; emitted = refl; over = refl }

pub beside_trans : {S : Type 0} → (d : Design S) (x y z : Core S) (m : ℕ) → GrowsBeside d x y m → GrowsBeside d y z m → GrowsBeside d x z m
beside_trans {S} d x y z m a c = grind (arith, grows_trans d x y z a.grows c.grows, a.emitted, c.emitted, a.over, c.over)

acts_beside : {S : Type 0} → (d : Design S) → IsDesign d → (limit : ℕ) (x : Core S) → AreOwnMarks d x → (m : ℕ) (a : Action)
    → IsNoRunOf m (a ∷ []) → (z : Core S) → Acts d limit x a z → GrowsBeside d x z m
acts_beside {S} d i limit x b m a o z s = grind (arith, acts_same d limit x m a o z s, acts_grow d i limit x b a z s)

-- ---- lists of actions

no_run_parts : (m : ℕ) (a : Action) (more : List Action) → IsNoRunOf m (a ∷ more) → IsNoRunOf m (a ∷ []) × IsNoRunOf m more
no_run_parts m a more o = grind arith

module _ {S : Type 0} (d : Design S) (h : Trace S) (i : IsDesign d) (y : IsHistory d h) (limit : ℕ) where
  pub actions_grow : (x : Core S) → IsAgreed d h limit x → (actions : List Action) (z : Core S) → ActsAll d limit x actions z → Grows d x z
  actions_grow x g [] z e = rw e (grows_self d x)
  actions_grow x g (a ∷ more) z (w, s, t) =
      grows_trans d x w z (acts_grow d i limit x g.marks a w s) (actions_grow w (acts_agree d h i y limit x g a w s) more z t)

  pub others_grow : (x : Core S) → IsAgreed d h limit x → (m : ℕ) (actions : List Action) → IsNoRunOf m actions → (z : Core S)
      → ActsAll d limit x actions z → GrowsBeside d x z m
  others_grow x g m [] o z e = rw e (beside_self d x m)
  others_grow x g m (a ∷ more) o z (w, s, t) =
      let (o1, o2) = no_run_parts m a more o in
      beside_trans d x w z m (acts_beside d i limit x g.marks m a o1 w s) (others_grow w (acts_agree d h i y limit x g a w s) m more o2 z t)

  -- so a Run that is permitted stays so, and emits the same
  pub still_ahead : (x : Core S) → IsAgreed d h limit x → (m : ℕ) → MayRun d x m → (actions : List Action) → IsNoRunOf m actions
      → (z : Core S) → ActsAll d limit x actions z → MayRun d z m × (newest d z m ≡ newest d x m)
  still_ahead x g m r actions o z s =
      let k = others_grow x g m actions o z s in
      let marks = (all_agree d h i y limit x g actions z s).marks in
      (stays d x z g.marks k.grows m k.emitted k.over r, newest_stays d x z g.marks marks k.grows m k.emitted r)

-- ---- the same Run in a core and in one that grew beside it

-- a module's new step pushes nothing for others
emit_values_other : {S : Type 0} → (d : Design S) (x : Core S) (m ch : ℕ) → (d.owner Push ch ≡ m → ⊥)
    → core_values d (emit d x m) ch ≡ core_values d x ch
emit_values_other {S} d x m ch o =
    let w : ℕ = d.owner Push ch in
    rw (
      put_other x.emitted m (suc (x.emitted m)) w o,
      pushed_same (core_accesses d (emit d x m) w) (core_accesses d x w)
          (λ j. bare_replies ((emit d x m).flags w j)) (λ j. bare_replies (x.flags w j)) ch (x.emitted w) (λ k l. grind (arith, nat_tests)),
    ) refl

module _ {S : Type 0} (d : Design S) (x z : Core S) (m : ℕ) (b : AreOwnMarks d x) (c : AreOwnMarks d z) (g : GrowsBeside d x z m)
    (r : MayRun d x m) where
  same_state : newest d z m ≡ newest d x m
  same_state = newest_stays d x z b c g.grows m g.emitted r

  over_both : GrowsBeside d (emit_over x m) (emit_over z m) m
  over_both = grind (arith, nat_tests, g.grows, g.emitted, g.over)

  old_there : (n k : ℕ) → k < x.emitted n → k < z.emitted n
  old_there n k l = omega (arith, g.grows.emitted_up n)

  emit_up_both : (n : ℕ) → (emit d x m).emitted n ≤ (emit d z m).emitted n
  emit_up_both n = grind (arith, nat_tests, g.emitted, g.grows.emitted_up n)

  emit_state_both : (n k : ℕ) → k < (emit d x m).emitted n → (emit d z m).state n k ≡ (emit d x m).state n k
  emit_state_both n k l = grind (arith, nat_tests, g.emitted, same_state, old_there n k, g.grows.state_same n k)

  -- a module that may run has all its outcomes, so its flags are the same in both
  own_flags_both : (n k : ℕ) → k < (emit d x m).emitted n → n ≡ m → (emit d z m).flags n k ≡ (emit d x m).flags n k
  own_flags_both n k l e =
      let answered = (settled_all d x b m r.answered r.there).answered k in
      grind (arith, nat_tests, g.emitted, same_state, old_there n k, g.grows.flags_same n k)

  emit_values_both : (ch : ℕ) → Begins (core_values d (emit d z m) ch) (core_values d (emit d x m) ch)
  emit_values_both ch =
      let w : ℕ = d.owner Push ch in
      elim (cases_eq w m) [
        | inl e ↦ values_grow d (emit d x m) (emit d z m) ch (emit_up_both w) (λ k l. emit_state_both w k l) (λ k l. own_flags_both w k l e)
        | inr e ↦ rw (emit_values_other d z m ch e, emit_values_other d x m ch e) (g.grows.values_up ch)
      ]

  emit_both : GrowsBeside d (emit d x m) (emit d z m) m
  emit_both =
      let here = g.emitted in
      let same = same_state in
      record {
        grows = record {
          emitted_up = emit_up_both;
          state_same = emit_state_both;
          wait_same = λ n k l. grind (arith, nat_tests, old_there n k, g.grows.wait_same n k);
          flags_same = λ n k l a. grind (arith, nat_tests, old_there n k, g.grows.flags_same n k);
          answered_up = λ n k l a. grind (arith, nat_tests, old_there n k, g.grows.answered_up n k);
          values_up = emit_values_both;
        };
        emitted = grind (arith, nat_tests);
        over = g.over;
      }

  run_both : GrowsBeside d (after_run d x m) (after_run d z m) m
  run_both =
      let same = ap (λ (s : S). d.is_over m (ready d m s)) same_state in
      grind (arith, over_both, emit_both)

-- Runs that are permitted in a core are so in one that grew beside it, and emit the same
pub runs_both : {S : Type 0} → (d : Design S) (limit m n : ℕ) (x y z : Core S) → AreOwnMarks d x → AreOwnMarks d z → GrowsBeside d x z m
    → ActsAll d limit x (runs n m) y → (w : Core S) × ActsAll d limit z (runs n m) w × GrowsBeside d y w m
runs_both {S} d limit m zero x y z b c g e = (z, refl, rw e g)
runs_both {S} d limit m (suc n) x y z b c g (v, (r, e), t) =
    let r' = stays d x z b g.grows m g.emitted g.over r in
    let (w, s, k) = runs_both d limit m n (after_run d x m) y (after_run d z m) (run_marks d x b m r) (run_marks d z c m r')
    (run_both d x z m b c g r) (rw (← e) t) in
    (w, (after_run d z m, (r', refl), s), k)

-- so they stay permitted while others act
pub runs_stay : {S : Type 0} → (d : Design S) (h : Trace S) → IsDesign d → IsHistory d h → (limit : ℕ) (x : Core S)
    → IsAgreed d h limit x → (m n : ℕ) (y : Core S)
    → ActsAll d limit x (runs n m) y → (actions : List Action) → IsNoRunOf m actions → (z : Core S) → ActsAll d limit x actions z
    → (w : Core S) × ActsAll d limit z (runs n m) w × GrowsBeside d y w m
runs_stay {S} d h i y limit x g m n v t actions o z s =
    runs_both d limit m n x v z g.marks (all_agree d h i y limit x g actions z s).marks (others_grow d h i y limit x g m actions o z s) t
