-- A module's first step without a cycle whose queries are not all verified.
use Rattle.std.proofs.Common.{◌≡◌, ap, ap₂, ◌∙◌, ℕ, ◌<◌, ltb, Bool, true, false, ◌&&◌, length, arith}
use Rattle.std.proofs.lemmas.Bool.{lt-ltb, and_parts}
use Rattle.engine_view.specs.{log_at, Design, IsDesign, IsSame, after_answer, step_of, emitted_of, are_among, core_of, IsSound, IsKept}
use Rattle.engine_view.specs.{HasUnsure, IsAfterAnswer, first_of, Held.Held}
use Rattle.event_timing.specs.Core.{Core}
use Rattle.event_timing.proofs.{Assigning.put_at_same, Assigning.put_at_other, Answering.answer_marks}
use Rattle.engine_view.proofs.Keeping.{now_kept}

-- there is such a step, and all before it are verified
pub record IsUnsure {S : Type 0} (d : Design S) (h : Held) (m : ℕ) : Type 0 where
  pub design : IsDesign d
  pub kept : IsKept d h
  pub inside : m < length h.lanes
  pub less : first_of h m < emitted_of h m
  pub unsure : (core_of d h).verified m (first_of h m) ≡ false

pub unsure_of : {S : Type 0} → (d : Design S) → IsDesign d → (h : Held) → IsKept d h → (m : ℕ) → HasUnsure h m → IsUnsure d h m
unsure_of {S} d i h k m u = record {
  design = i;
  kept = k;
  inside = u.inside;
  less = u.there;
  unsure = ap₂ (λ (a b : Bool). a && b) (lt-ltb (first_of h m) (emitted_of h m) u.there) u.unsure;
}

-- no outcome of it is recorded
pub record IsFresh {S : Type 0} (d : Design S) (h : Held) (m : ℕ) : Type 0 where
  pub unsure : IsUnsure d h m
  pub fresh : (core_of d h).answered m (first_of h m) ≡ false

-- what is held after the answers is kept
pub answered_on : {S : Type 0} → (d : Design S) (h : Held) (m c : ℕ) (g : Held) → IsUnsure d h m → IsSame d (core_of d h) m c
    → (core_of d g ≡ after_answer d (core_of d h) m c) × IsSound d g → IsAfterAnswer d h m c g
answered_on {S} d h m c g u same read = record {
  same = same;
  now = now_kept d g (after_answer d (core_of d h) m c) read (answer_marks d u.design (core_of d h) u.kept.marks m c u.less same) before;
}
  where
    before : (j p : ℕ) → p < first_of h j → (after_answer d (core_of d h) m c).verified j p ≡ true
    before j p l =
        let x = core_of d h in
        let other = put_at_other x.verified m (first_of h m) true j p in
        let earlier = u.kept.earlier j p l in
        grind arith

-- and after them the step is verified
pub verified_now : {S : Type 0} → (d : Design S) (h : Held) (m c : ℕ) (g : Held) → IsAfterAnswer d h m c g
    → are_among (step_of g m (first_of h m)) (log_at g.logs m).verified ≡ true
verified_now {S} d h m c g a =
    let k = first_of h m in
    let now = ap (λ (y : Core S). y.verified m k) a.now.core ∙ put_at_same (core_of d h).verified m k true in
    (and_parts (ltb k (emitted_of g m)) (are_among (step_of g m k) (log_at g.logs m).verified) now).1
