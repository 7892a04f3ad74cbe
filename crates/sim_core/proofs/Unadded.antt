-- Where actions add no outcome, each of them meets recorded ones, and no Run is permitted after them.
use Rattle.std.proofs.Common.{◌≡◌, refl, ap, subst, ℕ, ◌<◌, ◌⊎◌, inl, inr, true, Some, List, [], ◌∷◌, arith}
use Rattle.std.proofs.lemmas.Bool.{cases_Bool, both_ways}
use Rattle.sim_core.specs.{Design, IsDesign, view, candidate, IsAgreed, Trace, IsHistory, Action, Acts, ActsAll, IsRecorded, IsSame, MayRun}
use Rattle.sim_core.specs.{after_answer}
use Rattle.event_timing.specs.{Core.Core, Actions.Action.Run, Actions.Action.Assign, Actions.Action.Answer, Actions.Action.Earliest}
use Rattle.event_timing.proofs.{Agreement.acts_agree, Assigning.put_at_same, Beside.actions_grow, NoRun.recorded_no_run}
use Rattle.event_timing.proofs.Answering.{first_emitted}

-- each outcome of the one was there in the other
abbrev pub IsUnadded : {S : Type 0} → Core S → Core S → Type 0
IsUnadded {S} x w = (m k : ℕ) → k < x.emitted m → w.answered m k ≡ true → x.answered m k ≡ true

module _ {S : Type 0} (d : Design S) (h : Trace S) (i : IsDesign d) (y : IsHistory d h) (limit : ℕ) where
  -- of a step that is answered, or found to be another
  answered_before : (x z w : Core S) → IsAgreed d h limit x → IsUnadded x w → (n c : ℕ) → candidate d (view d x) n ≡ Some c
      → IsSame d x n c × (z ≡ after_answer d x n c) ⊎ (IsSame d x n c → ⊥) × (z ≡ x)
      → ((k : ℕ) → k < z.emitted n → z.answered n k ≡ true → w.answered n k ≡ true) → x.answered n (x.timed n) ≡ true
  answered_before x z w g old n c at (inl (same, is)) stays =
      let l = first_emitted d x n c at in
      let here = put_at_same x.answered n (x.timed n) true in
      old n (x.timed n) l (stays (x.timed n) (rw is l) (rw is here))
  answered_before x z w g old n c at (inr (other, is)) stays =
      elim (cases_Bool (x.answered n (x.timed n))) [
        | inl t ↦ t
        | inr f ↦ absurd (other (λ t. absurd (both_ways _ f t)))
      ]

  recorded_at : (x z w : Core S) → IsAgreed d h limit x → IsUnadded x w → (a : Action) → Acts d limit x a z
      → ((n k : ℕ) → k < z.emitted n → z.answered n k ≡ true → w.answered n k ≡ true) → IsRecorded x a
  recorded_at x z w g old (Run n) act stays = tt
  recorded_at x z w g old (Assign n) act stays = tt
  recorded_at x z w g old (Answer n) (c, may, done) stays = answered_before x z w g old n c may.determined.at done (stays n)
  recorded_at x z w g old (Earliest n) (c, may, done) stays = answered_before x z w g old n c may.open_step.determined.at done (stays n)

  -- but for a Run
  same_emitted : (x z : Core S) → ((m : ℕ) → MayRun d x m → ⊥) → (a : Action) → Acts d limit x a z → (m : ℕ) → z.emitted m ≡ x.emitted m
  same_emitted x z f (Run n) (may, is) m = absurd (f n may)
  same_emitted x z f (Assign n) (c, may, is) m = ap (λ (q : Core S). q.emitted m) is
  same_emitted x z f (Answer n) (c, may, inl (same, is)) m = ap (λ (q : Core S). q.emitted m) is
  same_emitted x z f (Answer n) (c, may, inr (other, is)) m = ap (λ (q : Core S). q.emitted m) is
  same_emitted x z f (Earliest n) (c, may, inl (same, is)) m = ap (λ (q : Core S). q.emitted m) is
  same_emitted x z f (Earliest n) (c, may, inr (other, is)) m = ap (λ (q : Core S). q.emitted m) is

  pub unadded_no_run : (x : Core S) → IsAgreed d h limit x → ((m : ℕ) → MayRun d x m → ⊥) → (actions : List Action) (w : Core S)
      → ActsAll d limit x actions w → IsUnadded x w → (m : ℕ) → MayRun d w m → ⊥
  unadded_no_run x g f [] w e old = λ m may. f m (subst (λ (z : Core S). MayRun d z m) e may)
  unadded_no_run x g f (a ∷ more) w (z, act, rest) old =
      let gz = acts_agree d h i y limit x g a z act in
      let later = actions_grow d h i y limit z gz more w rest in
      let here = actions_grow d h i y limit x g (a ∷ []) z (z, act, refl) in
      let recorded = recorded_at x z w g old a act (λ n k l t. later.answered_up n k l t) in
      unadded_no_run z gz (λ m may. recorded_no_run d h i y limit x g f (a ∷ []) z (z, act, recorded, refl) m may) more w rest
      (λ m k l t.
      let e = same_emitted x z f a act m in
      here.answered_up m k (omega arith) (old m k (omega arith) t))
