-- The bits of a word.
use Rattle.std.proofs.Common.{◌≡◌, ◌≢◌, sym, ap, ◌∙◌, ℕ, ◌+◌, ◌-◌, ◌*◌, ◌/◌, ◌%◌, ◌^◌, ◌<◌, ◌≤◌, ◌⊎◌, inl, inr, arith}
use Rattle.std.proofs.{lemmas.Bool.cases_lt, lemmas.Bool.cases_eq, Math.Pow.pow-lt}
use Rattle.std.proofs.lemmas.Nat.{one_shl, shr-shr, shr_le}
use Rattle.std.proofs.lemmas.Nat.Bits.{bit_at_or, bit_at_and, bit_at_not, bit_at-lt, bit_at-pow_same, bit_at-pow_other}
use Rattle.std.proofs.lemmas.Nat.Bits.{bit_at-trailing_zeros, bit_at_above, bit_at-zero}
use Rattle.std.specs.{Prelude.bit_or, Prelude.bit_and, Int.bit_at, Int.bit_not, Int.w64, Int.trailing_zeros}
use Rattle.module_sets.specs.{IsSet, IsFirstBit}

-- ---- the first bit that is set

-- the bits after one are those of the word without its low bits
shifted : (word from i : ℕ) → bit_at (word / 2 ^ from) i ≡ bit_at word (from + i)
shifted word from i = ap (λ n. n % 2) (shr-shr word from i)

after : (word from bit : ℕ) → from ≤ bit → bit_at (word / 2 ^ from) (bit - from) ≡ bit_at word bit
after word from bit l = let e : from + (bit - from) ≡ bit = omega arith in shifted word from (bit - from) ∙ ap (bit_at word) e

-- no bit from 64 on is set
pub set_below : (word bit : ℕ) → word < 2 ^ 64 → IsSet word bit → bit < 64
set_below word bit fits h = elim (cases_lt bit 64) [
  | inl l ↦ l
  | inr l ↦ let none = bit_at_above word 64 bit fits l in absurd (omega (arith, h, none))
]

-- where nothing is left, no bit from there on is set
pub none_from : (word from bit : ℕ) → word / 2 ^ from ≡ 0 → from ≤ bit → IsSet word bit → ⊥
none_from word from bit e l h =
    let none : bit_at word bit ≡ 0 = sym (after word from bit l) ∙ (ap (λ n. bit_at n (bit - from)) e ∙ bit_at-zero (bit - from)) in
    absurd (omega (arith, h, none))

-- the lowest bit that is left is the first one from there on
pub first_from : (word from left : ℕ) → word < 2 ^ 64 → left ≡ word / 2 ^ from → (left ≡ 0 → ⊥)
    → IsFirstBit word from (from + trailing_zeros w64 left)
first_from word from left fits e some =
    let small : left < 2 ^ 64 = let le = shr_le word from in omega (arith, e) in
    let low = bit_at-trailing_zeros w64 left (omega (arith, some)) small in
    record {
      after = omega arith;
      is_set = sym (shifted word from (trailing_zeros w64 left)) ∙ (ap (λ n. bit_at n (trailing_zeros w64 left)) (sym e) ∙ low.1);
      first = λ n l u h. let none : bit_at left (n - from) ≡ 0 = low.2 (n - from) (omega arith) in
          let is : bit_at left (n - from) ≡ bit_at word n = ap (λ k. bit_at k (n - from)) e ∙ after word from n l in
          absurd (omega (arith, h, none, is));
    }

-- ---- a bit that is set or cleared

-- a one that is shifted to it is that bit
pub one_at : (bit : ℕ) → bit < 64 → 1 * 2 ^ bit % 2 ^ 64 ≡ 2 ^ bit
one_at bit l = one_shl bit 64 l

pub own_set : (bit n : ℕ) → n ≡ bit → IsSet (2 ^ bit) n
own_set bit n e = rw e (bit_at-pow_same bit)

pub set_own : (bit n : ℕ) → IsSet (2 ^ bit) n → n ≡ bit
set_own bit n h = elim (cases_eq n bit) [
  | inl e ↦ e
  | inr other ↦ let none = bit_at-pow_other bit n other in absurd (omega (arith, h, none))
]

pub or_set : (a b n : ℕ) → IsSet a n ⊎ IsSet b n → IsSet (bit_or a b) n
or_set a b n (inl h) = let e = bit_at_or a b n in let l = bit_at-lt b n in omega (arith, e, h)
or_set a b n (inr h) = let e = bit_at_or a b n in let l = bit_at-lt a n in omega (arith, e, h)

pub set_or : (a b n : ℕ) → IsSet (bit_or a b) n → IsSet a n ⊎ IsSet b n
set_or a b n h = elim (cases_eq (bit_at a n) 1) [
  | inl e ↦ inl e
  | inr other ↦
      let e = bit_at_or a b n in
      let l = bit_at-lt a n in
      let u = bit_at-lt b n in
      let zero : bit_at a n ≡ 0 = omega (arith, l, other) in
      inr (omega (arith, e, h, zero))
]

-- all but one bit
pub without_set : (a bit n : ℕ) → bit < 64 → n < 64 → IsSet a n × (n ≢ bit) → IsSet (bit_and a (bit_not w64 (2 ^ bit))) n
without_set a bit n u l (h, other) =
    let e = bit_at_and a (bit_not w64 (2 ^ bit)) n in
    let f = bit_at_not w64 (2 ^ bit) n (pow-lt u) l in
    let z = bit_at-pow_other bit n other in
    omega (arith, e, f, z, h)

pub set_without : (a bit n : ℕ) → bit < 64 → n < 64 → IsSet (bit_and a (bit_not w64 (2 ^ bit))) n → IsSet a n × (n ≢ bit)
set_without a bit n u l h =
    let e = bit_at_and a (bit_not w64 (2 ^ bit)) n in
    let f = bit_at_not w64 (2 ^ bit) n (pow-lt u) l in
    let v = bit_at-lt a n in
    (omega (arith, e, f, h, v), λ same. let z = own_set bit n same in absurd (omega (arith, e, f, h, z)))
