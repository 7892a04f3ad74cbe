-- The line of the bits.
use Rattle.std.proofs.{Common.◌≡◌, Common.ℕ, Common.List, Common.◌∷◌, Common.[], Common.◌++◌, Common.arith, lemmas.Grind.common_steps}
use Rattle.least_memory.specs.{line}

-- a line of two tokens
pub line_of_two : (text a b : List ℕ) → ((text ++ a) ++ 32 ∷ b) ++ 10 ∷ [] ≡ text ++ line (a ∷ b ∷ [])
line_of_two text a b = grind (arith, common_steps)
