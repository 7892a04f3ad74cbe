-- The line of a point.
use Rattle.std.proofs.Common.{◌≡◌, ◌∙◌, sym, ap, ℕ, List, [], ◌∷◌, ◌++◌, map, append_assoc, append-nil, arith}
use Rattle.std.proofs.lemmas.Grind.{common_steps}
use Rattle.std.specs.{Fmt.decimal, List.join_with_byte}
use Rattle.whole_answer.specs.{line, spaced, text_of_lines, Token}

regroup : (token x xs a b : List ℕ)
    → token ++ 32 ∷ (((x ++ xs) ++ 32 ∷ a) ++ 32 ∷ b) ≡ ((token ++ (32 ∷ x ++ xs)) ++ 32 ∷ a) ++ 32 ∷ b
regroup token x xs a b = grind (arith, common_steps)

-- a token, numbers and two tokens, joined by spaces
join_more : (token : Token) (xs : List ℕ) (a b : Token)
    → join_with_byte 32 (token ∷ map decimal xs ++ a ∷ b ∷ []) ≡ (token ++ spaced xs) ++ 32 ∷ a ++ 32 ∷ b
join_more token [] a b = grind (arith, common_steps)
join_more token (x ∷ xs) a b = ap (λ (t : List ℕ). token ++ 32 ∷ t) (join_more (decimal x) xs a b)
    ∙ regroup token (decimal x) (spaced xs) a b

pub point_line : (text word a b : List ℕ) (xs : List ℕ)
    → ((((text ++ word) ++ spaced xs) ++ 32 ∷ a) ++ 32 ∷ b) ++ 10 ∷ [] ≡ text ++ line (word ∷ map decimal xs ++ a ∷ b ∷ [])
point_line text word a b xs = rw (join_more word xs a b) (grind (arith, common_steps))

-- one line more
pub last_line : (lines : List (List Token)) (last : List Token) → text_of_lines lines ++ line last ≡ text_of_lines (lines ++ last ∷ [])
last_line [] last = sym (append-nil (line last))
last_line (l ∷ lines) last = append_assoc (line l) (text_of_lines lines) (line last)
    ∙ ap (λ (t : List ℕ). line l ++ t) (last_line lines last)
