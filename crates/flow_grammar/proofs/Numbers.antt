-- A number is read by the digits' value.
use Rattle.std.proofs.Common.{◌≡◌, ℕ, List, [], ◌∷◌, true, false, Option, None, refl, ap, arith, length, cond, ◌≤◌}
use Rattle.std.proofs.{lemmas.Bool.le-ltb, lemmas.Bool.Decides.nat_tests}
use Rattle.std.specs.{Prelude.position, Prelude.◌==◌, Char.is_ascii_digit, List.list_all, List.position_or_len}
use Rattle.flow_grammar.specs.{is_no_digit, number_written, fitting, word_of, number_unless, is_number, number_of}

digit_is : (c : ℕ) → is_ascii_digit c ≡ true → is_no_digit c ≡ false
digit_is c h = grind (arith, nat_tests)

all_digits_long : (token : List ℕ) → list_all is_ascii_digit token ≡ true → length token ≤ position_or_len is_no_digit token
all_digits_long [] h = omega arith
all_digits_long (c ∷ cs) h = let rest = all_digits_long cs in let digit = digit_is c in grind arith

no_other : (token : List ℕ) → list_all is_ascii_digit token ≡ true → position is_no_digit token ≡ None
no_other token h = rw (le-ltb _ _ (all_digits_long token h)) refl

pub number_read : (token : List ℕ) → is_number token ≡ true → number_written token ≡ fitting (word_of (number_of token))
unfolding is_number
number_read [] h = absurd cc
number_read (c ∷ cs) h = ap (λ (o : Option ℕ). number_unless o (fitting (word_of (number_of (c ∷ cs))))) (no_other (c ∷ cs) h)

-- a token is a number where it is not empty and has digits alone
pub number_tests : (token : List ℕ) → is_number token ≡ cond (length token == 0) false (list_all is_ascii_digit token)
unfolding is_number
number_tests token = grind (arith, nat_tests)
