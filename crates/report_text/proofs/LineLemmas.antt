-- Lines and numbers one after another.
use Rattle.std.proofs.Common.{◌≡◌, ℕ, ◌+◌, ◌<◌, List, [], ◌∷◌, ◌++◌, length, map, take, get_or, ap, sym, ◌≤◌, ◌∙◌, append-nil, length-take}
use Rattle.std.proofs.Common.{append_assoc, take-take, arith}
use Rattle.std.proofs.{lemmas.Grind.common_steps, Math.Seq.take-append_seam, lemmas.List.Concat.flat_map-append}
use Rattle.std.proofs.lemmas.List.{map_more, take_more, flat_map_more}
use Rattle.std.specs.{Fmt.decimal, List.flat_map, List.join_with_byte, List.range_with_len, Io.StartsWith}
use Rattle.flow_word.proofs.Ranges.{range_last}
use Rattle.report_text.specs.{line, text_of_lines, spaced, Token}

-- the lines of the items before one, and that one's line
pub lines_more : {X : Type 0} (f : X → List Token) (text : List ℕ) (xs : List X) (i : ℕ) (x : X) → i < length xs → x ≡ get_or xs i x
    → (text ++ text_of_lines (map f (take i xs))) ++ line (f x) ≡ text ++ text_of_lines (map f (take (i + 1) xs))
lines_more f text xs i x h e = rw (map_more f xs i x h) (rw (← e) (flat_map_more line text (map f (take i xs)) (f x)))

-- the numbers before one, a space and that one
pub spaced_more : (text : List ℕ) (xs : List ℕ) (i : ℕ) → i < length xs
    → (text ++ spaced (take i xs)) ++ 32 ∷ decimal (get_or xs i 0) ≡ text ++ spaced (take (i + 1) xs)
spaced_more text xs i h = rw (take_more xs i 0 h) (flat_map_more (λ n. 32 ∷ decimal n) text (take i xs) (get_or xs i 0))

-- a token and then numbers, joined by spaces
pub join_numbers : (token : Token) (xs : List ℕ) → join_with_byte 32 (token ∷ map decimal xs) ≡ token ++ spaced xs
join_numbers token [] = sym (append-nil token)
join_numbers token (x ∷ xs) = ap (λ t. token ++ 32 ∷ t) (join_numbers (decimal x) xs)

-- a line of a word, a token and numbers
pub numbers_line : (text word token : List ℕ) (xs : List ℕ)
    → (((text ++ word) ++ 32 ∷ token) ++ spaced xs) ++ 10 ∷ [] ≡ text ++ line (word ∷ token ∷ map decimal xs)
numbers_line text word token xs = rw (join_numbers token xs) (grind (arith, common_steps))

-- a line of a word and numbers
pub word_line : (text word : List ℕ) (xs : List ℕ) → ((text ++ word) ++ spaced xs) ++ 10 ∷ [] ≡ text ++ line (word ∷ map decimal xs)
word_line text word xs = rw (join_numbers word xs) (grind (arith, common_steps))

-- what starts with a text and more starts with that text
pub still_starts : (new old more : List ℕ) → StartsWith new (old ++ more) → StartsWith new old
still_starts new old more h = grind (arith, common_steps, take-append_seam old more)

-- what begins with a text begins with what that began with
pub begins_through : (new text old : List ℕ) → StartsWith new text → StartsWith text old → StartsWith new old
begins_through new text old h g =
    let shorter : length old ≤ length text = omega (arith, ap length g, length-take (length old) text) in
    sym (take-take (length old) (length text) new shorter) ∙ (ap (λ t. take (length old) t) h ∙ g)

-- a line of three tokens
pub line_of_three : (text a b c : List ℕ) → (((text ++ a) ++ 32 ∷ b) ++ 32 ∷ c) ++ 10 ∷ [] ≡ text ++ line (a ∷ b ∷ c ∷ [])
line_of_three text a b c = grind (arith, common_steps)

-- a line of four tokens
pub line_of_four : (text a b c d : List ℕ) → ((((text ++ a) ++ 32 ∷ b) ++ 32 ∷ c) ++ 32 ∷ d) ++ 10 ∷ [] ≡ text ++ line (a ∷ b ∷ c ∷ d ∷ [])
line_of_four text a b c d = grind (arith, common_steps)

-- a line of five tokens
pub line_of_five : (text a b c d e : List ℕ)
    → (((((text ++ a) ++ 32 ∷ b) ++ 32 ∷ c) ++ 32 ∷ d) ++ 32 ∷ e) ++ 10 ∷ [] ≡ text ++ line (a ∷ b ∷ c ∷ d ∷ e ∷ [])
line_of_five text a b c d e = grind (arith, common_steps)

-- after a text, two lines and three groups of lines
pub all_parts : (text : List ℕ) (a b : List Token) (xs ys zs : List (List Token))
    → ((((text ++ line a) ++ line b) ++ text_of_lines xs) ++ text_of_lines ys) ++ text_of_lines zs
    ≡ text ++ text_of_lines (a ∷ b ∷ xs ++ ys ++ zs)
all_parts text a b xs ys zs = grind (arith, common_steps)

-- ---- lists of lines

pub text-append : (xs ys : List (List Token)) → text_of_lines (xs ++ ys) ≡ text_of_lines xs ++ text_of_lines ys
text-append xs ys = flat_map-append line xs ys

-- the lines of one number more
pub numbers_more : (g : ℕ → List (List Token)) (n : ℕ) (first text next : List ℕ)
    → text ≡ first ++ text_of_lines (flat_map g (range_with_len 0 n)) → next ≡ text ++ text_of_lines (g n)
    → next ≡ first ++ text_of_lines (flat_map g (range_with_len 0 (n + 1)))
numbers_more g n first text next e r =
    r ∙ (ap (λ (t : List ℕ). t ++ text_of_lines (g n)) e
    ∙ (append_assoc first (text_of_lines (flat_map g (range_with_len 0 n))) (text_of_lines (g n))
    ∙ ap (λ (t : List ℕ). first ++ t)
    (sym (text-append (flat_map g (range_with_len 0 n)) (g n))
    ∙ (ap text_of_lines (sym (flat_map-append g (range_with_len 0 n) (n ∷ [])
    ∙ ap (λ (l : List (List Token)). flat_map g (range_with_len 0 n) ++ l) (append-nil (g n))))
    ∙ ap (λ (l : List ℕ). text_of_lines (flat_map g l)) (sym (range_last n))))))
