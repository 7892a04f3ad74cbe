-- Beginnings of a history, and the entries that bear a number.
use Rattle.std.proofs.Common.{◌≡◌, ◌≢◌, ◌⊎◌, ℕ, zero, suc, ◌+◌, ◌≤◌, List, [], ◌∷◌, ◌++◌, length, Option, Some, None, Bool, true, false}
use Rattle.std.proofs.Common.{cond, nat_le, if◌then◌else◌, sym, refl, ap, ◌∙◌, inl, inr, ⊎_elim, append_assoc, append-nil, length-append}
use Rattle.std.proofs.Common.{eq-eqb, ne_eqb, arith}
use Rattle.std.proofs.{lemmas.List.nil_from_length, lemmas.List.Elements.filter-append, lemmas.Bool.leb-true}
use mathlib.Core.List.{IsPrefix}
use mathlib.Core.Option.{some, some-injective, some-ne-none}
use lib.ListN.{get_elem?}
use Rattle.turn_lock.specs.{bears, entries_of, Views.longer}

module _ {A : Type 0} where
  pub prefix_self : (xs : List A) → IsPrefix xs xs
  prefix_self xs = ([], append-nil xs)

  pub prefix_more : (xs log zs : List A) → IsPrefix xs log → IsPrefix xs (log ++ zs)
  prefix_more xs log zs p = (p.0 ++ zs, sym (append_assoc xs p.0 zs) ∙ ap (λ w. w ++ zs) p.1)

  pub prefix_longer : (xs ys log : List A) → IsPrefix xs log → IsPrefix ys log → IsPrefix (longer xs ys) log
  prefix_longer xs ys log p q = elim (nat_le (length xs) (length ys)) as (λ b. IsPrefix (if b then ys else xs) log) [ true ↦ q | false ↦ p ]

  -- of two beginnings of one list the shorter begins the longer
  shorter_begins : (xs ys cs ds : List A) → xs ++ cs ≡ ys ++ ds → length xs ≤ length ys → IsPrefix xs ys
  shorter_begins [] ys cs ds e h = (ys, refl)
  shorter_begins (x ∷ xs) [] cs ds e h = absurd (omega arith)
  shorter_begins (x ∷ xs) (y ∷ ys) cs ds e h = let head : x ≡ y = cc e in let tail : xs ++ cs ≡ ys ++ ds = cc e in
      let r = shorter_begins xs ys cs ds tail (omega arith) in
      (r.0, λ i. head i ∷ r.1 i)

  pub prefix_of_prefix : (xs ys log : List A) → IsPrefix xs log → IsPrefix ys log → length xs ≤ length ys → IsPrefix xs ys
  prefix_of_prefix xs ys log p q h = shorter_begins xs ys p.0 q.0 (p.1 ∙ sym q.1) h

  -- an element of a list with one more at its end, with the place of that one
  pub at_end : (l : List A) (a b : A) (j : ℕ) → get_elem? (l ++ a ∷ []) j ≡ some b → (get_elem? l j ≡ some b) ⊎ ((j ≡ length l) × (a ≡ b))
  at_end [] a b zero e = inr (refl, some-injective a b e)
  at_end [] a b (suc j) e = absurd (some-ne-none b (sym e))
  at_end (x ∷ xs) a b zero e = inl e
  at_end (x ∷ xs) a b (suc j) e = ⊎_elim (λ t. inl t) (λ t. inr (ap suc t.0, t.1)) (at_end xs a b j e)

module _ {A : Type 0} where
  abbrev some_or : A → Option A → A
  some_or d (Some x) = x
  some_or d None = d

  pub Some-same : (x y : A) → Some x ≡ Some y → x ≡ y
  Some-same x y e = ap (some_or x) e

module _ {E : Type 0} (bearer : E → Option ℕ) (n : ℕ) where
  pub entries-append : (xs ys : List E) → entries_of bearer n (xs ++ ys) ≡ entries_of bearer n xs ++ entries_of bearer n ys
  entries-append xs ys = filter-append (λ x. bears (bearer x) n) xs ys

  entries_count : (xs ys log : List E) → xs ++ ys ≡ log → length (entries_of bearer n log) ≡ length (entries_of bearer n xs) + length
      (entries_of bearer n ys)
  entries_count xs ys log e = ap (λ l. length (entries_of bearer n l)) (sym e)
      ∙ (ap length (entries-append xs ys) ∙ length-append (entries_of bearer n xs) (entries_of bearer n ys))

  -- one entry more that bears the number, after all that did
  pub entries_mine : (own before log : List E) (e : E) → own ≡ entries_of bearer n before → log ≡ before ++ e ∷ [] → bearer e ≡ Some n
      → own ++ e ∷ [] ≡ entries_of bearer n log
  entries_mine own before log e early more is = ap (λ l. l ++ e ∷ []) early
      ∙ (sym (entries-append before (e ∷ []) ∙ ap (λ b. entries_of bearer n before ++ cond b (e ∷ []) [])
      (ap (λ o. bears o n) is ∙ eq-eqb n n refl)) ∙ ap (entries_of bearer n) (sym more))

  pub entries_other : (k : ℕ) (log : List E) (e : E) → bearer e ≡ Some k → k ≢ n
      → entries_of bearer n (log ++ e ∷ []) ≡ entries_of bearer n log
  entries_other k log e is other = entries-append log (e ∷ [])
      ∙ (ap (λ b. entries_of bearer n log ++ cond b (e ∷ []) []) (ap (λ o. bears o n) is ∙ ne_eqb k n other)
      ∙ append-nil (entries_of bearer n log))

  -- where a history has none, no beginning of it has one
  pub none_before : (xs log : List E) → IsPrefix xs log → entries_of bearer n log ≡ [] → entries_of bearer n xs ≡ []
  none_before xs log p none = let all = entries_count xs p.0 log p.1 in let zero_all = ap length none in
      nil_from_length (entries_of bearer n xs) (omega arith)

  -- where a beginning has all of them, none is later
  pub none_later : (xs ys log : List E) → xs ++ ys ≡ log → entries_of bearer n log ≡ entries_of bearer n xs → entries_of bearer n ys ≡ []
  none_later xs ys log e same = let all = entries_count xs ys log e in let counts = ap length same in
      nil_from_length (entries_of bearer n ys) (omega arith)

  -- what has as many in a beginning as in the whole has them in between
  entries_between : (own xs ys log : List E) → IsPrefix xs ys → IsPrefix ys log → own ≡ entries_of bearer n xs
      → own ≡ entries_of bearer n log → own ≡ entries_of bearer n ys
  entries_between own xs ys log p q early late = let more = entries_count xs p.0 ys p.1 in let all = entries_count ys q.0 log q.1 in
      let same = ap length (sym late ∙ early) in
      let none : entries_of bearer n p.0 ≡ [] = nil_from_length (entries_of bearer n p.0) (omega arith) in
      early ∙ (sym (append-nil (entries_of bearer n xs)) ∙ (ap (λ l. entries_of bearer n xs ++ l) (sym none)
      ∙ (sym (entries-append xs p.0) ∙ ap (entries_of bearer n) p.1)))

  pub entries_longer : (own xs ys log : List E) → IsPrefix xs log → IsPrefix ys log → own ≡ entries_of bearer n xs
      → own ≡ entries_of bearer n log → own ≡ entries_of bearer n (longer xs ys)
  entries_longer own xs ys log p q early late = either_one (nat_le (length xs) (length ys)) refl
    where
      either_one : (b : Bool) → nat_le (length xs) (length ys) ≡ b → own ≡ entries_of bearer n (if b then ys else xs)
      either_one true h = entries_between own xs ys log (prefix_of_prefix xs ys log p q (leb-true (length xs) (length ys) h)) q early late
      either_one false h = early
