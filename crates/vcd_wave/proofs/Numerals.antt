-- Digits that are read are those of the number that they give.
use Rattle.std.proofs.Common.{◌≡◌, ℕ, zero, suc, ◌+◌, ◌-◌, ◌*◌, ◌/◌, ◌%◌, ◌^◌, ◌≤◌, ◌<◌, Bool, cond, List, [], ◌∷◌, ◌++◌, Option, None}
use Rattle.std.proofs.Common.{Some, refl, sym, ◌∙◌, ap, arith, append_assoc, get_or, append-nil, eq-eqb, length, subst, ⊎_elim}
use Rattle.std.proofs.{lemmas.Bool.ne_eqb, lemmas.Bool.cases_eq, lemmas.List.map-append}
use Rattle.std.proofs.lemmas.Int.Digits.{digits_of_step, number_digits_of, number_after_ge, all_below_base_digits_of, first_digits_of}
use Rattle.std.proofs.lemmas.Fmt.{decimal_digit, decimal-digits_of}
use Rattle.std.specs.{Int.Digits.digits_of, Int.Digits.number_from_digits_after, Int.Digits.AllBelowBase, Prelude.decimal}
use Rattle.vcd_wave.specs.{numeral, one_digit, on_some, digits_read, number_read}
use Rattle.vcd_wave.proofs.Cutting.{shown, shown_lacks, Lacks, cut}

pub numeral_above : (base n : ℕ) → 0 < n → numeral base n ≡ shown (digits_of base n)
unfolding numeral
numeral_above base n h = ap (λ (b : Bool). cond b (48 ∷ []) (shown (digits_of base n))) (ne_eqb n 0 (λ e. absurd (omega arith)))

record Step (base most value c next : ℕ) : Type 0 where
  low : 48 ≤ c
  high : c < 48 + base
  is : next ≡ value * base + (c - 48)
  fits : next ≤ most

step_parts : (base most value c next : ℕ) → one_digit base most value c ≡ Some next → Step base most value c next
step_parts base most value c next e = grind arith

step_is : (base most value d : ℕ) → d < base → value * base + d ≤ most → one_digit base most value (48 + d) ≡ Some (value * base + d)
step_is base most value d h m = grind arith

-- a digit more
push : (base value d : ℕ) → 2 ≤ base → d < base → 0 < value * base + d
    → shown (digits_of base (value * base + d)) ≡ shown (digits_of base value) ++ (48 + d) ∷ []
push base value d two h pos =
    let q : (value * base + d) / base ≡ value = grind arith in
    let r : (value * base + d) % base ≡ d = grind arith in
    ap shown (digits_of_step base (value * base + d) two pos)
    ∙ (ap (λ (m : ℕ). shown (digits_of base m ++ ((value * base + d) % base) ∷ [])) q
    ∙ (ap (λ (m : ℕ). shown (digits_of base value ++ m ∷ [])) r
    ∙ map-append (λ d. 48 + d) (digits_of base value) (d ∷ [])))

some_same : (x y : ℕ) → Some x ≡ Some y → x ≡ y
some_same x y e = cc

record Parts {X Y : Type 0} (o : Option X) (f : X → Option Y) (y : Y) : Type 0 where
  x : X
  is : o ≡ Some x
  then_is : f x ≡ Some y

on_some_parts : {X Y : Type 0} (o : Option X) (f : X → Option Y) (y : Y) → on_some o f ≡ Some y → Parts o f y
on_some_parts None f y e = cc
on_some_parts (Some x) f y e = record { x = x; is = refl; then_is = e }

record Read (base most n : ℕ) (prefix cs : List ℕ) : Type 0 where
  digits : shown (digits_of base n) ≡ prefix ++ cs
  above : 0 < n
  fits : n ≤ most

read_is : (base most value n : ℕ) (cs : List ℕ) → 2 ≤ base → 0 < value → value ≤ most → digits_read base most value cs ≡ Some n
    → Read base most n (shown (digits_of base value)) cs
read_is base most value n [] two pos le e =
    let same = some_same value n e in
    record {
      digits = ap (λ (m : ℕ). shown (digits_of base m)) (sym same) ∙ sym (append-nil (shown (digits_of base value)));
      above = omega (arith, same);
      fits = omega (arith, same);
    }
read_is base most value n (c ∷ cs) two pos le e =
    let parts = on_some_parts (one_digit base most value c) (λ next. digits_read base most next cs) n e in
    let s = step_parts base most value c parts.x parts.is in
    let more = number_after_ge base value ((c - 48) ∷ []) (omega arith) in
    let rest = read_is base most parts.x n cs two (omega (arith, s.is, more)) s.fits parts.then_is in
    let own : 48 + (c - 48) ≡ c = omega (arith, s.low) in
    record {
      digits = rest.digits
          ∙ (ap (λ (m : ℕ). shown (digits_of base m) ++ cs) s.is
          ∙ (ap (λ (l : List ℕ). l ++ cs) (push base value (c - 48) two (omega (arith, s.low, s.high)) (omega (arith, more)))
          ∙ (append_assoc (shown (digits_of base value)) ((48 + (c - 48)) ∷ []) cs
          ∙ ap (λ (m : ℕ). shown (digits_of base value) ++ m ∷ cs) own)));
      above = rest.above;
      fits = rest.fits;
    }

pub read_all : (base most value : ℕ) (ds : List ℕ) → 0 < base → AllBelowBase base ds → number_from_digits_after base value ds ≤ most
    → digits_read base most value (shown ds) ≡ Some (number_from_digits_after base value ds)
read_all base most value [] pos h le = refl
read_all base most value (d ∷ ds) pos h le =
    let here = step_is base most value d h.0 (omega (arith, number_after_ge base (value * base + d) ds pos)) in
    ap (λ (o : Option ℕ). on_some o (λ next. digits_read base most next (shown ds))) here
    ∙ read_all base most (value * base + d) ds pos h.1 le

first_read : (base most n c : ℕ) (cs : List ℕ) → 2 ≤ base → (c ≡ 48 → ⊥) → digits_read base most 0 (c ∷ cs) ≡ Some n
    → (c ∷ cs ≡ numeral base n) × (n ≤ most)
first_read base most n c cs two other e =
    let parts = on_some_parts (one_digit base most 0 c) (λ next. digits_read base most next cs) n e in
    let s = step_parts base most 0 c parts.x parts.is in
    let is : parts.x ≡ c - 48 = omega (arith, s.is) in
    let pos : 0 < parts.x = omega (arith, s.low, other, is) in
    let rest = read_is base most parts.x n cs two pos s.fits parts.then_is in
    let one : shown (digits_of base parts.x) ≡ (48 + (c - 48)) ∷ [] =
    ap (λ (m : ℕ). shown (digits_of base m)) s.is ∙ push base 0 (c - 48) two (omega (arith, s.low, s.high)) (omega (arith, pos, is)) in
    let own : 48 + (c - 48) ≡ c = omega (arith, s.low) in
    (sym (numeral_above base n rest.above ∙ (rest.digits ∙ (ap (λ (l : List ℕ). l ++ cs) one ∙ ap (λ (m : ℕ). m ∷ cs) own))), rest.fits)

zero_read : (base most n : ℕ) → digits_read base most 0 (48 ∷ []) ≡ Some n → n ≡ 0
zero_read base most n e =
    let parts = on_some_parts (one_digit base most 0 48) (λ next. digits_read base most next []) n e in
    let s = step_parts base most 0 48 parts.x parts.is in
    omega (arith, s.is, some_same parts.x n parts.then_is)

pub number_some : (base most n : ℕ) (cs : List ℕ) → 2 ≤ base → number_read base most cs ≡ Some n
    → (cs ≡ numeral base n) × (n ≤ most)
unfolding numeral
number_some base most n [] two e = cc
number_some base most n (c ∷ []) two e =
    ⊎_elim (λ same.
    let z = zero_read base most n (ap (λ (m : ℕ). digits_read base most 0 (m ∷ [])) (sym same) ∙ e) in
    (ap (λ (m : ℕ). m ∷ []) same ∙ ap (numeral base) (sym z), omega (arith, z)))
    (λ other. first_read base most n c [] two other e)
    (cases_eq c 48)
number_some base most n (c ∷ d ∷ ds) two e =
    ⊎_elim (λ same. let wrong : None ≡ Some n =
    ap (λ (b : Bool). cond b None (digits_read base most 0 (c ∷ d ∷ ds))) (sym (eq-eqb c 48 same)) ∙ e in cc)
    (λ other. first_read base most n c (d ∷ ds) two other
    (ap (λ (b : Bool). cond b None (digits_read base most 0 (c ∷ d ∷ ds))) (sym (ne_eqb c 48 other)) ∙ e))
    (cases_eq c 48)

plain_read : (base most : ℕ) (ds : List ℕ) → 0 < get_or ds 0 0 → number_read base most (shown ds) ≡ digits_read base most 0 (shown ds)
plain_read base most [] h = absurd (omega arith)
plain_read base most (d ∷ []) h = refl
plain_read base most (d ∷ e ∷ ds) h =
    ap (λ (b : Bool). cond b None (digits_read base most 0 (shown (d ∷ e ∷ ds)))) (ne_eqb (48 + d) 48 (λ e. absurd (omega arith)))

pub number_all : (base most n : ℕ) → 2 ≤ base → n ≤ most → number_read base most (numeral base n) ≡ Some n
unfolding numeral
number_all base most zero two le = ap (λ (o : Option ℕ). on_some o (λ next. Some next)) (step_is base most 0 0 (omega arith) (omega arith))
    ∙ ap (λ (m : ℕ). Some m) (let none : 0 * base + 0 ≡ 0 = omega arith in none)
number_all base most (suc n) two le =
    let ds = digits_of base (suc n) in
    let value = number_digits_of base (suc n) two in
    ap (number_read base most) (numeral_above base (suc n) (omega arith))
    ∙ (plain_read base most ds (first_digits_of base (suc n) two (omega arith))
    ∙ (read_all base most 0 ds (omega arith) (all_below_base_digits_of base (suc n) two) (omega (arith, value))
    ∙ ap (λ (m : ℕ). Some m) value))

-- ---- numbers before a byte

numeral_lacks : (k base n : ℕ) → k < 48 → Lacks k (numeral base n)
unfolding numeral
numeral_lacks k base zero h = ((λ e. absurd (omega arith)), tt)
numeral_lacks k base (suc n) h = subst (Lacks k) (sym (numeral_above base (suc n) (omega arith))) (shown_lacks k h (digits_of base (suc n)))

pub lacks_each : (k : ℕ) (xs : List ℕ) → ((i : ℕ) → i < length xs → get_or xs i 0 ≡ k → ⊥) → Lacks k xs
lacks_each k [] h = tt
lacks_each k (x ∷ xs) h = (h 0 (omega arith), lacks_each k xs (λ i l. h (suc i) (omega arith)))

absent : (k : ℕ) (a r : List ℕ) → ((i : ℕ) → i < length (a ++ k ∷ r) → get_or (a ++ k ∷ r) i 0 ≡ k → ⊥) → ⊥
absent k [] r h = h 0 (omega arith) refl
absent k (x ∷ a) r h = absent k a r (λ i l. h (suc i) (omega arith))

pub no_number : (byte : ℕ) (text a r : List ℕ) → ((i : ℕ) → i < length text → get_or text i 0 ≡ byte → ⊥) → text ≡ a ++ byte ∷ r → ⊥
no_number byte text a r h e =
    absent byte a r (subst (λ (t : List ℕ). (i : ℕ) → i < length t → get_or t i 0 ≡ byte → ⊥) e h)

pub before_some : (base most byte n : ℕ) (text digits after : List ℕ) → 2 ≤ base → text ≡ digits ++ byte ∷ after
    → Some n ≡ number_read base most digits → (text ≡ numeral base n ++ byte ∷ after) × (n ≤ most)
before_some base most byte n text digits after two e read =
    let found = number_some base most n digits two (sym read) in
    (e ∙ ap (λ (a : List ℕ). a ++ byte ∷ after) found.0, found.1)

pub before_all : (base most byte n : ℕ) (text digits after rest : List ℕ) → 2 ≤ base → byte < 48 → text ≡ digits ++ byte ∷ after
    → ((i : ℕ) → i < length digits → get_or digits i 0 ≡ byte → ⊥) → n ≤ most → text ≡ numeral base n ++ byte ∷ rest
    → (number_read base most digits ≡ Some n) × (after ≡ rest)
before_all base most byte n text digits after rest two low e lacks le is =
    let same = cut byte digits (numeral base n) after rest (lacks_each byte digits lacks) (numeral_lacks byte base n low) (sym e ∙ is) in
    (ap (number_read base most) same.0 ∙ number_all base most n two le, same.1)

pub none_read : (base most byte n : ℕ) (text digits after rest : List ℕ) → 2 ≤ base → byte < 48 → text ≡ digits ++ byte ∷ after
    → ((i : ℕ) → i < length digits → get_or digits i 0 ≡ byte → ⊥) → n ≤ most → text ≡ numeral base n ++ byte ∷ rest
    → None ≡ number_read base most digits → ⊥
none_read base most byte n text digits after rest two low e lacks le is none =
    let wrong : None ≡ Some n = none ∙ (before_all base most byte n text digits after rest two low e lacks le is).0 in cc

pub same_read : (base most byte n m : ℕ) (text digits after rest : List ℕ) → 2 ≤ base → byte < 48 → text ≡ digits ++ byte ∷ after
    → ((i : ℕ) → i < length digits → get_or digits i 0 ≡ byte → ⊥) → n ≤ most → text ≡ numeral base n ++ byte ∷ rest
    → Some m ≡ number_read base most digits → (m ≡ n) × (after ≡ rest)
same_read base most byte n m text digits after rest two low e lacks le is read =
    let same = before_all base most byte n text digits after rest two low e lacks le is in
    (some_same m n (read ∙ same.0), same.1)

pub numeral_decimal : (n : ℕ) → n < 2 ^ 64 → numeral 10 n ≡ decimal n
unfolding numeral
numeral_decimal zero h = sym (decimal_digit 0 (omega arith))
numeral_decimal (suc n) h = numeral_above 10 (suc n) (omega arith) ∙ sym (decimal-digits_of (suc n) (omega arith) h)
