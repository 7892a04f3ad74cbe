-- What holds of each seat, where the view of one is changed or one is added.
use Rattle.std.proofs.Common.{◌≡◌, ◌≢◌, ℕ, zero, suc, ◌<◌, List, [], ◌∷◌, ◌++◌, length, set, Option, true, false, sym, ap, ◌∙◌, subst}
use Rattle.std.proofs.Common.{⊎_elim, arith}
use mathlib.Core.Logic.{dite}
use mathlib.Core.Option.{some, some-injective, some-ne-none}
use native.Mathlib.Decide.{ℕ_discrete}
use lib.ListN.{get_elem?}
use Rattle.atomic_table.proofs.Lists.{at_set, set_here, set_else, at_longer}
use Rattle.turn_lock.specs.{PassView, HasMark, Story, Knows}

-- passes of one number have one seat
pub same_seat : (seat_of : ℕ → ℕ) (n k i j : ℕ) → seat_of n ≡ i → seat_of k ≡ j → n ≡ k → i ≡ j
same_seat seat_of n k i j here there same = sym here ∙ (ap seat_of same ∙ there)

module _ {A : Type 0} where
  pub inside : (l : List A) (i : ℕ) (a : A) → get_elem? l i ≡ some a → i < length l
  inside [] i a e = absurd (some-ne-none a (sym e))
  inside (x ∷ xs) zero a e = omega arith
  inside (x ∷ xs) (suc i) a e = let h = inside xs i a e in omega arith

module _ {E : Type 0} where
  -- a fact of each live seat, where the seat `me` has a new view
  pub seats_stay : (P : ℕ → PassView E → Type 0) (vs : List (PassView E)) (me : ℕ) (w : PassView E) → (w.spent ≡ false → P me w)
      → ((j : ℕ) (v : PassView E) → j ≢ me → get_elem? vs j ≡ some v → v.spent ≡ false → P j v)
      → (j : ℕ) (v : PassView E) → get_elem? (set vs me w) j ≡ some v → v.spent ≡ false → P j v
  seats_stay P vs me w mine others j v e = ⊎_elim (λ (t : (j ≡ me) × (w ≡ v)). subst (λ (x : ℕ × PassView E). x.1.spent ≡ false → P x.0 x.1)
      (λ i. (sym t.0 i, t.1 i)) mine)
      (λ (t : (j ≢ me) × (get_elem? vs j ≡ some v)). others j v t.0 t.1) (at_set vs me j w v e)

  -- the mark stays where a view that changes keeps it
  pub mark_stays : (vs : List (PassView E)) (me j : ℕ) (v w : PassView E) → get_elem? vs me ≡ some v → w.spent ≡ v.spent
      → w.is_holder ≡ v.is_holder
      → HasMark vs j → HasMark (set vs me w) j
  mark_stays vs me j v w at spent mark h = dite (ℕ_discrete j me)
      (λ e. let same : v ≡ h.0 = some-injective _ _ (sym at ∙ (ap (get_elem? vs) (sym e) ∙ h.1)) in (
        w,
        ap (get_elem? (set vs me w)) e ∙ set_here vs me w (inside vs me v at),
        spent ∙ (ap (λ u. u.spent) same ∙ h.2),
        mark
            ∙ (ap (λ u. u.is_holder) same ∙ h.3),
      ))
      (λ other. (h.0, set_else vs me j w other ∙ h.1, h.2, h.3))

  -- what is found twice in one place is the same
  pub mark_at : (vs : List (PassView E)) (i j : ℕ) (v w : PassView E) → get_elem? vs i ≡ some v → get_elem? vs j ≡ some w → i ≡ j
      → v.is_holder ≡ true → w.is_holder ≡ true
  mark_at vs i j v w here there same held = let one : v ≡ w = some-injective v w (sym here ∙ (ap (get_elem? vs) same ∙ there)) in
      sym (ap (λ u. u.is_holder) one) ∙ held

  -- it stays where a seat is added
  pub mark_later : (vs : List (PassView E)) (w : PassView E) (j : ℕ) → HasMark vs j → HasMark (vs ++ w ∷ []) j
  mark_later vs w j h = (h.0, at_longer vs (w ∷ []) j h.0 h.1, h.2, h.3)

module _ {E : Type 0} (bearer : E → Option ℕ) (passes : ℕ) where
  -- what is known of a seat without the mark speaks neither of the turn word nor of the holder
  pub unmarked : (t : Story E) (holder turn turn' j : ℕ) (v : PassView E) → v.is_holder ≢ true → Knows bearer passes t turn j v
      → Knows bearer passes (record t { holder = holder }) turn' j v
  unmarked t holder turn turn' j v not_held k = record {
    begins = k.begins;
    mark = λ h. absurd (not_held h);
    low = k.low;
    limit = k.limit;
    placed = k.placed;
    first = k.first;
    lone = k.lone;
    gone = k.gone;
    own = k.own;
    own_seen = k.own_seen;
  }
