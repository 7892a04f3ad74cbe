-- Lines of words and numbers, and groups of lines.
use Rattle.std.proofs.Common.{◌≡◌, sym, ◌∙◌, ap, arith, ℕ, ◌+◌, List, [], ◌∷◌, ◌++◌, map}
use Rattle.std.proofs.{lemmas.Grind.common_steps, lemmas.List.FromFn.map-range_with_len_more}
use Rattle.std.specs.List.{flat_map, range_with_len}
use Rattle.whole_answer.specs.{Token, line, text_of_lines}
use Rattle.trace_text.proofs.LogLines.{joined}
use Rattle.whole_answer.proofs.PointLines.{last_line}

-- ---- tokens

-- a line of a word, a name and further tokens
pub line_of_more : (text word name : List ℕ) (tokens : List Token)
    → (((text ++ word) ++ 32 ∷ name) ++ flat_map (λ t. 32 ∷ t) tokens) ++ 10 ∷ [] ≡ text ++ line (word ∷ name ∷ tokens)
line_of_more text word name tokens = rw (joined name tokens) (grind (arith, common_steps))

-- ---- modules

-- one line more
pub lines_more : (f : ℕ → List Token) (n : ℕ) (text new : List ℕ) → text ≡ text_of_lines (map f (range_with_len 0 n))
    → new ≡ text ++ line (f n) → new ≡ text_of_lines (map f (range_with_len 0 (n + 1)))
lines_more f n text new so_far added =
    added ∙ (ap (λ (t : List ℕ). t ++ line (f n)) so_far ∙ (last_line (map f (range_with_len 0 n)) (f n)
    ∙ ap text_of_lines (sym (map-range_with_len_more f 0 n n (omega arith)))))
