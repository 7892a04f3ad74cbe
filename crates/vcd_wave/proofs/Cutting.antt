-- Texts that are cut at a byte, and numbers that are read back from their digits.
use Rattle.std.proofs.Common.{◌≡◌, ◌≢◌, ℕ, zero, suc, ◌+◌, ◌^◌, ◌<◌, true, false, List, [], ◌∷◌, ◌++◌, map, refl, sym, ◌∙◌, ap, ap₂, subst}
use Rattle.std.proofs.Common.{arith, get_or}
use Rattle.std.proofs.{lemmas.Bool.and_parts, lemmas.Fmt.decimal_digit, lemmas.Fmt.decimal-digits_of, lemmas.Int.Digits.number_digits_of}
use Rattle.std.specs.{Prelude.decimal, Prelude.IsTrue, List.list_all, Int.Digits.digits_of, Int.Digits.number_from_digits}
use Rattle.vcd_wave.specs.{is_name, is_name_byte, begins_with_letter, numeral}
use Rattle.vcd_wave.proofs.BinaryLemmas.{binary_small, binary_above}

-- ---- cutting

-- no byte of the text is this one
abbrev pub Lacks : ℕ → List ℕ → Type 0
Lacks k [] = Unit {0}
Lacks k (x ∷ xs) = (x ≢ k) × Lacks k xs

pub head_same : (x y : ℕ) (xs ys : List ℕ) → x ∷ xs ≡ y ∷ ys → x ≡ y
head_same x y xs ys e = ap (λ (l : List ℕ). get_or l 0 0) e

tail_of : List ℕ → List ℕ
tail_of [] = []
tail_of (x ∷ xs) = xs

pub tail_same : (x y : ℕ) (xs ys : List ℕ) → x ∷ xs ≡ y ∷ ys → xs ≡ ys
unfolding tail_of
tail_same x y xs ys e = ap tail_of e

-- a text is cut in one way at its first byte of a kind
pub cut : (k : ℕ) (a b r s : List ℕ) → Lacks k a → Lacks k b → a ++ k ∷ r ≡ b ++ k ∷ s → (a ≡ b) × (r ≡ s)
cut k [] [] r s h g e = (refl, tail_same k k r s e)
cut k [] (y ∷ ys) r s h g e = absurd (g.0 (sym (head_same k y r (ys ++ k ∷ s) e)))
cut k (x ∷ xs) [] r s h g e = absurd (h.0 (head_same x k (xs ++ k ∷ r) s e))
cut k (x ∷ xs) (y ∷ ys) r s h g e =
    let more = cut k xs ys r s h.1 g.1 (tail_same x y (xs ++ k ∷ r) (ys ++ k ∷ s) e) in
    (ap₂ (λ (a : ℕ) (l : List ℕ). a ∷ l) (head_same x y (xs ++ k ∷ r) (ys ++ k ∷ s) e) more.0, more.1)

-- ---- digits

abbrev pub shown : List ℕ → List ℕ
shown ds = map (λ d. 48 + d) ds

pub shown_lacks : (k : ℕ) → k < 48 → (ds : List ℕ) → Lacks k (shown ds)
shown_lacks k h [] = tt
shown_lacks k h (d ∷ ds) = ((λ e. absurd (omega arith)), shown_lacks k h ds)

shown_same : (xs ys : List ℕ) → shown xs ≡ shown ys → xs ≡ ys
shown_same [] [] e = refl
shown_same [] (y ∷ ys) e = cc
shown_same (x ∷ xs) [] e = cc
shown_same (x ∷ xs) (y ∷ ys) e =
    let same : 48 + x ≡ 48 + y = head_same (48 + x) (48 + y) (shown xs) (shown ys) e in
    ap₂ (λ (a : ℕ) (l : List ℕ). a ∷ l) (omega arith) (shown_same xs ys (tail_same (48 + x) (48 + y) (shown xs) (shown ys) e))

pub decimal_lacks : (k n : ℕ) → k < 48 → n < 2 ^ 64 → Lacks k (decimal n)
decimal_lacks k zero h l = subst (Lacks k) (sym (decimal_digit 0 (omega arith))) (shown_lacks k h (0 ∷ []))
decimal_lacks k (suc n) h l = subst (Lacks k) (sym (decimal-digits_of (suc n) (omega arith) l)) (shown_lacks k h (digits_of 10 (suc n)))

-- a number's digits, and the number from them
record Shown (n : ℕ) : Type 0 where
  ds : List ℕ
  text : numeral 2 n ≡ shown ds
  number : number_from_digits 2 ds ≡ n

binary_shown : (n : ℕ) → Shown n
binary_shown zero = record { ds = 0 ∷ []; text = binary_small 0 (omega arith); number = refl }
binary_shown (suc n) = record {
  ds = digits_of 2 (suc n);
  text = binary_above (suc n) (omega arith);
  number = number_digits_of 2 (suc n) (omega arith);
}

pub binary_lacks : (k n : ℕ) → k < 48 → Lacks k (numeral 2 n)
binary_lacks k n h = let d = binary_shown n in subst (Lacks k) (sym d.text) (shown_lacks k h d.ds)

pub binary_same : (m n : ℕ) → numeral 2 m ≡ numeral 2 n → m ≡ n
binary_same m n e =
    let d = binary_shown m in
    let f = binary_shown n in
    sym d.number ∙ (ap (number_from_digits 2) (shown_same d.ds f.ds (sym d.text ∙ (e ∙ f.text))) ∙ f.number)

-- ---- names

bytes_lack : (xs : List ℕ) → list_all is_name_byte xs ≡ true → Lacks 32 xs
bytes_lack [] h = tt
bytes_lack (x ∷ xs) h =
    let parts = and_parts (is_name_byte x) (list_all is_name_byte xs) h in
    ((λ e. let wrong : true ≡ false = sym parts.0 ∙ ap is_name_byte e in cc), bytes_lack xs parts.1)

pub name_lacks : (xs : List ℕ) → IsTrue (is_name xs) → Lacks 32 xs
name_lacks xs h = bytes_lack xs (and_parts (list_all is_name_byte xs) _ (and_parts (begins_with_letter xs) _ h).1).0
