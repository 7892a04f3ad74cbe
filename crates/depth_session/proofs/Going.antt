-- Lists of outcomes that begin alike.
use Rattle.std.proofs.Common.{◌≡◌, ◌≢◌, refl, sym, ap, ap₂, subst, ◌∙◌, ℕ, zero, suc, ◌+◌, ◌<◌, ◌≤◌, inl, inr, Bool, true, false, ◌&&◌}
use Rattle.std.proofs.Common.{cond, List, [], ◌∷◌, ◌++◌, length, Some, arith, append-nil}
use Rattle.std.proofs.{lemmas.Bool.cases_lt, lemmas.Bool.lt-ltb, lemmas.Bool.le-ltb, lemmas.List.length-append}
use Rattle.std.specs.Prelude.{slice_get}
use Rattle.depth_session.specs.{IsPrefix, agree_so_far, longer, all_go_on, all_longer, next_counts, RecordGoesOn, RepeatsAnswers}
use Rattle.depth_session.specs.{answers_of, run_count}
use Rattle.outcome_guard.proofs.Kept.{tells_alike, goes_alike}

-- ---- one module

apart_stops : (a b : List Bool) → (IsPrefix a b → ⊥) → (IsPrefix b a → ⊥) → agree_so_far a b ≡ false
apart_stops a b p q = sym (tells_alike false a b ((λ e. cc), (λ s. absurd (elim s [ inl r ↦ p r | inr r ↦ q r ]))))

at_most : (a b : List Bool) → IsPrefix a b → length a ≤ length b
at_most a b (more, e) =
    let n : length b ≡ length a + length more = ap (λ (q : List Bool). length q) e ∙ length-append a more in
    omega arith

same_length : (a b : List Bool) → IsPrefix a b → length b ≤ length a → b ≡ a
same_length a b ([], e) l = e ∙ append-nil a
same_length a b (x ∷ more, e) l =
    let n : length b ≡ length a + length (x ∷ more) = ap (λ (q : List Bool). length q) e ∙ length-append a (x ∷ more) in
    absurd (omega arith)

first_longer : (a b : List Bool) → length b ≤ length a → longer a b ≡ a
first_longer a b l = ap (λ (t : Bool). cond t b a) (le-ltb (length a) (length b) l)

second_longer : (a b : List Bool) → length a < length b → longer a b ≡ b
second_longer a b l = ap (λ (t : Bool). cond t b a) (lt-ltb (length a) (length b) l)

one_goes_on : (kept found now : List Bool) → RecordGoesOn kept found now → (agree_so_far kept found ≡ true) × (now ≡ longer kept found)
one_goes_on kept found now g =
    elim g.ends [
      | inl e ↦
          let begins = subst (IsPrefix found) e g.begins in
          (goes_alike kept found (inr begins), e ∙ sym (first_longer kept found (at_most found kept begins)))
      | inr e ↦
          let begins = subst (IsPrefix kept) e g.grew in (
            goes_alike kept found (inl begins),
            elim (cases_lt (length kept) (length found)) [
              | inl l ↦ e ∙ sym (second_longer kept found l)
              | inr l ↦ e ∙ (same_length kept found begins l ∙ sym (first_longer kept found l))
            ],
          )
    ]

-- it is as it was, where what is found is among others, which are among what is kept
pub nothing_new : (kept found now all : List Bool) → RecordGoesOn kept found now → IsPrefix found all → IsPrefix all kept → now ≡ kept
nothing_new kept found now all g begin repeat =
    elim g.ends [
      | inl e ↦ e
      | inr e ↦
          let n = ap (λ (q : List Bool). length q) e in
          let few = at_most found all begin in
          let least = at_most all kept repeat in
          same_length kept now g.grew (omega arith)
    ]

kept_at : (a b : List Bool) (j : ℕ) (v : Bool) → slice_get a j ≡ Some v → slice_get (a ++ b) j ≡ Some v
kept_at [] b j v e = cc
kept_at (x ∷ a) b zero v e = e
kept_at (x ∷ a) b (suc j) v e = kept_at a b j v e

pub apart : (a b : List Bool) (j : ℕ) (v w : Bool) → slice_get a j ≡ Some v → slice_get b j ≡ Some w → v ≢ w → IsPrefix a b → ⊥
apart a b j v w p q n (more, e) =
    let s : Some v ≡ Some w = sym (kept_at a more j v p) ∙ (ap (λ (l : List Bool). slice_get l j) (sym e) ∙ q) in
    n (cc)

one_differs : (kept found : List Bool) (j : ℕ) (a b : Bool) → slice_get kept j ≡ Some a → slice_get found j ≡ Some b → a ≢ b
    → agree_so_far kept found ≡ false
one_differs kept found j a b p q n = apart_stops kept found (apart kept found j a b p q n) (apart found kept j b a q p (λ r. n (sym r)))

-- ---- all modules

later : (a b c : List Bool) (kept found now : List (List Bool))
    → ((m : ℕ) → m < suc (length kept) → RecordGoesOn (answers_of (a ∷ kept) m) (answers_of (b ∷ found) m) (answers_of (c ∷ now) m))
    → (m : ℕ) → m < length kept → RecordGoesOn (answers_of kept m) (answers_of found m) (answers_of now m)
later a b c kept found now f m l = f (suc m) (omega arith)

all_on : (kept found now : List (List Bool)) → length found ≡ length kept → length now ≡ length kept
    → ((m : ℕ) → m < length kept → RecordGoesOn (answers_of kept m) (answers_of found m) (answers_of now m))
    → (all_go_on kept found ≡ true) × (all_longer kept found ≡ now)
all_on [] [] [] e l f = (refl, refl)
all_on [] [] (c ∷ now) e l f = absurd (omega arith)
all_on [] (b ∷ found) now e l f = absurd (omega arith)
all_on (a ∷ kept) [] now e l f = absurd (omega arith)
all_on (a ∷ kept) (b ∷ found) [] e l f = absurd (omega arith)
all_on (a ∷ kept) (b ∷ found) (c ∷ now) e l f =
    let here = one_goes_on a b c (f 0 (omega arith)) in
    let rest = all_on kept found now (omega arith) (omega arith) (later a b c kept found now f) in (
      ap₂ (λ (p q : Bool). p && q) here.0 rest.0,
      ap₂ (λ (x : List Bool) (xs : List (List Bool)). x ∷ xs) (sym here.1) rest.1,
    )

none_on : (p : Bool) → (p && false) ≡ false
none_on true = refl
none_on false = refl

all_off : (kept found : List (List Bool)) (m : ℕ) → m < length kept → m < length found
    → agree_so_far (answers_of kept m) (answers_of found m) ≡ false → all_go_on kept found ≡ false
all_off [] found m l u e = absurd (omega arith)
all_off (a ∷ kept) [] m l u e = absurd (omega arith)
all_off (a ∷ kept) (b ∷ found) zero l u e = ap (λ (p : Bool). p && all_go_on kept found) e
all_off (a ∷ kept) (b ∷ found) (suc m) l u e =
    ap (λ (q : Bool). agree_so_far a b && q) (all_off kept found m (omega arith) (omega arith) e) ∙ none_on (agree_so_far a b)

-- ---- the count

pub counts_go_on : (kept found now : List (List Bool)) → length found ≡ length kept → length now ≡ length kept
    → ((m : ℕ) → m < length kept → RecordGoesOn (answers_of kept m) (answers_of found m) (answers_of now m))
    → (runs : ℕ) → next_counts (run_count kept runs) found ≡ run_count now runs
unfolding next_counts
counts_go_on kept found now e l f runs = let (on, is) = all_on kept found now e l f in rw (on, is) refl

pub counts_repeat : (kept found : List (List Bool)) → length found ≡ length kept → RepeatsAnswers kept found
    → (runs : ℕ) → next_counts (run_count kept runs) found ≡ run_count kept runs
counts_repeat kept found e f runs =
    counts_go_on kept found kept e refl
    (λ m l. record { grew = ([], sym (append-nil (answers_of kept m))); begins = f m l; ends = inl refl }) runs

pub counts_differ : (kept found : List (List Bool)) (m j : ℕ) (a b : Bool) → m < length kept → m < length found
    → slice_get (answers_of kept m) j ≡ Some a → slice_get (answers_of found m) j ≡ Some b → a ≢ b
    → (runs : ℕ) → next_counts (run_count kept runs) found ≡ run_count found (runs + 1)
unfolding next_counts
counts_differ kept found m j a b l u p q n runs =
    let off = all_off kept found m l u (one_differs (answers_of kept m) (answers_of found m) j a b p q n) in
    rw off refl
