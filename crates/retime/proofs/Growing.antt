-- Records only grow while cycles are given and queries answered.
use Rattle.std.proofs.Common.{◌≡◌, refl, sym, ◌∙◌, ℕ, ◌⊎◌, inl, inr, true, false, List, [], ◌∷◌, arith}
use Rattle.std.proofs.{lemmas.Bool.cases_Bool, lemmas.Bool.Decides.eqb_tells}
use Rattle.retime.specs.{Design, IsDesign, Trace, IsHistory, IsAgreed, Action, ActsAll, IsSame, after_assign, after_answer, new_flags}
use Rattle.retime.specs.{AreTimings, AreVerified, RecordGrows}
use Rattle.event_timing.specs.{Core.Core, Actions.Action.Run, Actions.Action.Assign, Actions.Action.Answer, Actions.Action.Earliest}
use Rattle.event_timing.proofs.{Agreement.acts_agree, Assigning.put_at_same, Assigning.put_at_other}

grows_not : {S : Type 0} → (x : Core S) (m : ℕ) → RecordGrows x x m
grows_not {S} x m = record { emitted = refl; answered = λ k e. e; flags = λ k e. refl; verified = λ k e. e; ends = inl (λ k. refl) }

timed_grows : {S : Type 0} → (x : Core S) (n c m : ℕ) → RecordGrows x (after_assign x n c) m
timed_grows {S} x n c m = record { emitted = refl; answered = λ k e. e; flags = λ k e. refl; verified = λ k e. e; ends = inl (λ k. refl) }

grows_more : {S : Type 0} → (x w z : Core S) (m : ℕ) → RecordGrows x w m → RecordGrows w z m → RecordGrows x z m
grows_more {S} x w z m a b = record {
  emitted = b.emitted ∙ a.emitted;
  answered = λ k e. b.answered k (a.answered k e);
  flags = λ k e. b.flags k (a.answered k e) ∙ a.flags k e;
  verified = λ k e. b.verified k (a.verified k e);
  ends = ends_more b.ends a.ends;
}
  where
    ends_more : ((k : ℕ) → z.answered m k ≡ w.answered m k) ⊎ AreVerified z m → ((k : ℕ) → w.answered m k ≡ x.answered m k)
        ⊎ AreVerified w m
        → ((k : ℕ) → z.answered m k ≡ x.answered m k) ⊎ AreVerified z m
    ends_more (inr all) before = inr all
    ends_more (inl same) (inl none) = inl (λ k. same k ∙ none k)
    ends_more (inl same) (inr all) = inr (λ k l e. b.verified k (all k (let n = b.emitted in omega arith) (sym (same k) ∙ e)))

-- one Answer
module _ {S : Type 0} (d : Design S) (y : Trace S) (limit : ℕ) (x : Core S) (g : IsAgreed d y limit x) (n c : ℕ) (same : IsSame d x n c)
  where
    abbrev k₀ : ℕ
    k₀ = x.timed n

    abbrev z : Core S
    z = after_answer d x n c

    -- what holds of the step that is answered, and of each other as before, holds of each
    at_each : (P : ℕ → ℕ → Type 0) → P n k₀ → ((m k : ℕ) → (m ≡ n → k ≡ k₀ → ⊥) → P m k) → (m k : ℕ) → P m k
    at_each P here else m k = let other = else m k in grind arith

    answered_now : (m k : ℕ) → x.answered m k ≡ true → z.answered m k ≡ true
    answered_now =
        at_each (λ m k. x.answered m k ≡ true → z.answered m k ≡ true) (λ e. put_at_same x.answered n k₀ true)
        (λ m k f e. put_at_other x.answered n k₀ true m k f ∙ e)

    verified_now : (m k : ℕ) → x.verified m k ≡ true → z.verified m k ≡ true
    verified_now =
        at_each (λ m k. x.verified m k ≡ true → z.verified m k ≡ true) (λ e. put_at_same x.verified n k₀ true)
        (λ m k f e. put_at_other x.verified n k₀ true m k f ∙ e)

    flags_now : (m k : ℕ) → x.answered m k ≡ true → z.flags m k ≡ x.flags m k
    flags_now =
        at_each (λ m k. x.answered m k ≡ true → z.flags m k ≡ x.flags m k)
        (λ e. put_at_same x.flags n k₀ (new_flags d x n c) ∙ sym (same e))
        (λ m k f e. put_at_other x.flags n k₀ (new_flags d x n c) m k f)

    -- where the step's outcomes were recorded, none is added
    none_added : x.answered n k₀ ≡ true → (m k : ℕ) → z.answered m k ≡ x.answered m k
    none_added there =
        at_each (λ m k. z.answered m k ≡ x.answered m k) (put_at_same x.answered n k₀ true ∙ sym there)
        (λ m k f. put_at_other x.answered n k₀ true m k f)

    -- else it is the module's newest step, and all before it is verified
    all_verified : x.answered n k₀ ≡ false → AreVerified z n
    all_verified fresh k l e =
        let before = verified_now n k in
        let was = g.time.verified_then n k in
        let replied = g.marks.replied n k₀ in
        let now = put_at_same x.verified n k₀ true in
        grind arith

    ends_now : (m : ℕ) → ((k : ℕ) → z.answered m k ≡ x.answered m k) ⊎ AreVerified z m
    ends_now m =
        elim (cases_Bool (x.answered n k₀)) [
          | inl there ↦ inl (none_added there m)
          | inr fresh ↦ elim (eqb_tells m n) [
            | inl p ↦ inr (rw p.1 (all_verified fresh))
            | inr p ↦ inl (λ k. put_at_other x.answered n k₀ true m k (λ e f. p.1 e))
          ]
        ]

    answer_grows : (m : ℕ) → RecordGrows x z m
    answer_grows m = record { emitted = refl; answered = answered_now m; flags = flags_now m; verified = verified_now m; ends = ends_now m }

pub answered_or_not : {S : Type 0} → (d : Design S) (y : Trace S) (limit : ℕ) (x w : Core S) → IsAgreed d y limit x → (n c m : ℕ)
    → (IsSame d x n c × (w ≡ after_answer d x n c)) ⊎ ((IsSame d x n c → ⊥) × (w ≡ x)) → RecordGrows x w m
answered_or_not {S} d y limit x w g n c m (inl (same, e)) = rw e (answer_grows d y limit x g n c same m)
answered_or_not {S} d y limit x w g n c m (inr (other, e)) = rw e (grows_not x m)

-- a list of actions
pub records_grow : {S : Type 0} → (d : Design S) (y : Trace S) → IsDesign d → IsHistory d y → (limit : ℕ) (x : Core S)
    → IsAgreed d y limit x
    → (actions : List Action) → AreTimings actions → (z : Core S) → ActsAll d limit x actions z → (m : ℕ) → RecordGrows x z m
records_grow {S} d y i w limit x g [] t z e m = rw e (grows_not x m)
records_grow {S} d y i w limit x g (Run n ∷ rest) t z e m = absurd t
records_grow {S} d y i w limit x g (Earliest n ∷ rest) t z e m = absurd t
records_grow {S} d y i w limit x g (Assign n ∷ rest) t z (v, (c, may, is), more) m =
    grows_more x v z m (rw is (timed_grows x n c m))
    (records_grow d y i w limit v (acts_agree d y i w limit x g (Assign n) v (c, may, is)) rest t z more m)
records_grow {S} d y i w limit x g (Answer n ∷ rest) t z (v, (c, may, is), more) m =
    grows_more x v z m (answered_or_not d y limit x v g n c m is)
    (records_grow d y i w limit v (acts_agree d y i w limit x g (Answer n) v (c, may, is)) rest t z more m)
