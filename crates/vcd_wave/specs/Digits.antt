-- Numbers that are read digit by digit.
use Rattle.std.specs.Prelude.{ℕ, ◌+◌, ◌-◌, ◌*◌, ◌==◌, ◌&&◌, nat_le, nat_lt, if◌then◌else◌, List, [], ◌∷◌, map, Option, None, Some}
use Rattle.std.specs.Int.Digits.{digits_of}

-- a number in digits of a base, without leading zeros
unfoldable pub numeral : ℕ → ℕ → List ℕ
numeral base n = if n == 0 then 48 ∷ [] else map (λ d. 48 + d) (digits_of base n)

abbrev pub on_some : {X Y : Type 0} → Option X → (X → Option Y) → Option Y
on_some None f = None
on_some (Some x) f = f x

-- the value after one more digit; none where the byte is no digit or the value is too large
abbrev pub one_digit : ℕ → ℕ → ℕ → ℕ → Option ℕ
one_digit base most value c =
    if nat_le 48 c && (nat_lt (c - 48) base && nat_le (value * base + (c - 48)) most) then Some (value * base + (c - 48)) else None

-- the value after these further digits
abbrev pub digits_read : ℕ → ℕ → ℕ → List ℕ → Option ℕ
digits_read base most value [] = Some value
digits_read base most value (c ∷ cs) = on_some (one_digit base most value c) (λ next. digits_read base most next cs)

-- the number that these digits of a base write, if they have no leading zero and write at most `most`
abbrev pub number_read : ℕ → ℕ → List ℕ → Option ℕ
number_read base most [] = None
number_read base most (c ∷ []) = digits_read base most 0 (c ∷ [])
number_read base most (c ∷ d ∷ ds) = if c == 48 then None else digits_read base most 0 (c ∷ d ∷ ds)
