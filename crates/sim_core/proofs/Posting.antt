-- Reading a mail off the log and the table.
use Rattle.std.proofs.Common.{◌≡◌, refl, sym, ap, ◌∙◌, ℕ, zero, suc, ◌+◌, ◌-◌, ◌<◌, List, [], ◌∷◌, ◌++◌, take, drop, length, Some, None}
use Rattle.std.proofs.Common.{slice_get, arith, append_assoc, append-nil, Bool}
use Rattle.sim_core.specs.{Begins, IsReadingOutcomes, IsReadingValues}
use Rattle.sim_core.proofs.Beginnings.{drop_twice, drop_front}

pub drop_some : {X : Type 0} → (xs : List X) (n : ℕ) (v : X) → slice_get xs n ≡ Some v → drop n xs ≡ v ∷ drop (suc n) xs
drop_some [] n v e = cc
drop_some (x ∷ xs) zero v e = cc
drop_some (x ∷ xs) (suc n) v e = drop_some xs n v e

drop_none : {X : Type 0} → (xs : List X) (n : ℕ) → slice_get xs n ≡ None → drop n xs ≡ []
drop_none [] zero e = refl
drop_none [] (suc n) e = refl
drop_none (x ∷ xs) zero e = cc
drop_none (x ∷ xs) (suc n) e = drop_none xs n e

take_none : {X : Type 0} → (n : ℕ) → ◌≡◌ {A = List X} (take n []) []
take_none zero = refl
take_none (suc n) = refl

pub outcomes_more : (all : List Bool) (first count : ℕ) (read more : List Bool) (at : ℕ) (o : Bool)
    → IsReadingOutcomes all first count read at → at < count → slice_get all (first + at) ≡ Some o → more ≡ read ++ o ∷ []
    → IsReadingOutcomes all first count more (suc at)
outcomes_more all first count read more at o k l e m =
    let z : count - at ≡ suc (count - suc at) = omega arith in
    let y : suc (first + at) ≡ first + suc at = omega arith in
    let d : drop (first + at) all ≡ o ∷ drop (first + suc at) all = drop_some all (first + at) o e ∙ ap (λ (n : ℕ). o ∷ drop n all) y in
    let t : take (count - at) (drop (first + at) all) ≡ o ∷ take (count - suc at) (drop (first + suc at) all) = ap (take (count - at)) d
    ∙ ap (λ (n : ℕ). take n (o ∷ drop (first + suc at) all)) z in
    record {
      same = ap (λ (xs : List Bool). xs ++ take (count - suc at) (drop (first + suc at) all)) m
          ∙ (append_assoc read (o ∷ []) (take (count - suc at) (drop (first + suc at) all))
          ∙ (ap (λ (xs : List Bool). read ++ xs) (sym t) ∙ k.same));
    }

pub outcomes_end : (all : List Bool) (first count : ℕ) (read : List Bool) (at : ℕ) → IsReadingOutcomes all first count read at
    → slice_get all (first + at) ≡ None → read ≡ take count (drop first all)
outcomes_end all first count read at k e =
    sym (append-nil read) ∙ (ap (λ (xs : List Bool). read ++ xs) (sym (ap (take (count - at)) (drop_none all (first + at) e)
    ∙ take_none (count - at))) ∙ k.same)

pub values_first : (all : List ℕ) (first : ℕ) (read : List ℕ) (at : ℕ) → Begins (drop first all) read → at ≡ first + length read
    → IsReadingValues all first read at
values_first all first read at (more, e) at_is = record {
  same = ap (λ (n : ℕ). read ++ drop n all) at_is
      ∙ (ap (λ (xs : List ℕ). read ++ xs) (sym (drop_twice all first (length read)) ∙ (ap (drop (length read)) e ∙ drop_front read more))
      ∙ sym e);
}

pub values_more : (all : List ℕ) (first : ℕ) (read more : List ℕ) (at word : ℕ) → IsReadingValues all first read at
    → slice_get all (at + 1 - 1) ≡ Some word → more ≡ read ++ word ∷ [] → IsReadingValues all first more (suc at)
values_more all first read more at word k e m =
    let z : at + 1 - 1 ≡ at = omega arith in
    record {
      same = ap (λ (xs : List ℕ). xs ++ drop (suc at) all) m
          ∙ (append_assoc read (word ∷ []) (drop (suc at) all) ∙ (ap (λ (xs : List ℕ). read ++ xs)
          (sym (drop_some all at word (ap (slice_get all) (sym z) ∙ e))) ∙ k.same));
    }
