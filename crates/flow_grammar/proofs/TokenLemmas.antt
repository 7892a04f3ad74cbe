-- The first token of a line, and the tokens after it.
use Rattle.std.proofs.Common.{◌≡◌, ℕ, suc, ◌+◌, ◌<◌, ◌≤◌, inl, inr, Bool, true, false, cond, not, List, [], ◌∷◌, length, take, drop, get_or}
use Rattle.std.proofs.Common.{refl, sym, ap, ◌∙◌, arith}
use Rattle.std.proofs.lemmas.List.Splits.{slice_split-cons_yes, slice_split-cons_no, slice_split_none, slice_split_first}
use Rattle.std.proofs.lemmas.List.Sums.{fails_before_first, take_while-cons, prefix_len-le-length}
use Rattle.std.proofs.{lemmas.Bool.cases_lt, lemmas.Bool.lt-ltb, lemmas.Bool.Decides.nat_tests}
use Rattle.std.specs.Prelude.{position, None, Some, unwrap_or, filter}
use Rattle.std.specs.List.{slice_split, position_or_len, take_while}
use Rattle.flow_grammar.specs.{lines_of, is_line_feed, tokens_of, is_separator, is_filler, is_no_comment, is_filled}

pub position-or_length : (p : ℕ → Bool) (xs : List ℕ) → unwrap_or (position p xs) (length xs) ≡ position_or_len p xs
position-or_length p xs = let most = prefix_len-le-length (λ x. not (p x)) xs in grind (arith, nat_tests)

one_more : (n b : ℕ) (bs : List ℕ) → (drop (1 + n) (b ∷ bs) ≡ drop n bs) × (take (1 + n) (b ∷ bs) ≡ b ∷ take n bs)
one_more n b bs = let e : 1 + n ≡ suc n = omega arith in rw e (refl, refl)

-- a separator at the front changes nothing
pub tokens-separator : (b : ℕ) (bs : List ℕ) → is_separator b ≡ true → tokens_of (b ∷ bs) ≡ tokens_of bs
unfolding tokens_of
tokens-separator b bs h = rw (slice_split-cons_yes is_separator b bs h) refl

-- nor do the separators before the first token
pub tokens-from_start : (line : List ℕ) → tokens_of (drop (position_or_len is_filler line) line) ≡ tokens_of line
tokens-from_start [] = refl
tokens-from_start (b ∷ bs) = let later = tokens-from_start bs in let skips = tokens-separator b bs in
    let more = one_more (position_or_len is_filler bs) b bs in grind arith

-- a line that does not begin with a separator
abbrev pub Begins : List ℕ → Type 0
Begins [] = Unit {0}
Begins (b ∷ bs) = is_separator b ≡ false

begins_at : (b : ℕ) (bs : List ℕ) (sep : Bool) → is_separator b ≡ sep → Begins (drop (position_or_len is_filler bs) bs)
    → Begins (drop (cond (not (not sep)) (1 + position_or_len is_filler bs) 0) (b ∷ bs))
begins_at b bs true h e = let k : 1 + position_or_len is_filler bs ≡ suc (position_or_len is_filler bs) = omega arith in rw k e
begins_at b bs false h e = h

pub begins : (line : List ℕ) → Begins (drop (position_or_len is_filler line) line)
begins [] = tt
begins (b ∷ bs) = begins_at b bs (is_separator b) refl (begins bs)

-- the parts after the first one
parts_after : List ℕ → List (List ℕ)
parts_after [] = []
parts_after (b ∷ bs) = slice_split is_separator bs

tokens_among : List (List ℕ) → List (List ℕ)
tokens_among parts = take_while is_no_comment (filter is_filled parts)

abbrev end_of : List ℕ → ℕ
end_of line = position_or_len is_separator line

cut : (line : List ℕ) → slice_split is_separator line ≡ take (end_of line) line ∷ parts_after (drop (end_of line) line)
unfolding parts_after
cut [] = refl
cut (b ∷ bs) =
    let later = cut bs in let splits = slice_split-cons_yes is_separator b bs in let goes_on = slice_split-cons_no is_separator b bs in
    let more = one_more (end_of bs) b bs in grind arith

after : (line : List ℕ) → tokens_of (drop (end_of line) line) ≡ tokens_among (parts_after (drop (end_of line) line))
unfolding parts_after tokens_among tokens_of
after [] = refl
after (b ∷ bs) = let later = after bs in let skips = tokens-separator b bs in let more = one_more (end_of bs) b bs in grind arith

-- what the front of a line says, where it begins with no separator
pub tokens_from : List ℕ → List ℕ → List (List ℕ)
tokens_from token rest = cond (is_filled token) (cond (is_no_comment token) (token ∷ tokens_of rest) []) (tokens_of rest)

whole : (line : List ℕ) → tokens_of line ≡ tokens_among (take (end_of line) line ∷ parts_after (drop (end_of line) line))
unfolding tokens_of tokens_among
whole line = ap tokens_among (cut line)

pub first_word : (line : List ℕ) → tokens_of line ≡ tokens_from (take (end_of line) line) (drop (end_of line) line)
unfolding tokens_from tokens_among
first_word line =
    let last = after line in let all = whole line in let first = take_while-cons is_no_comment (take (end_of line) line) in grind arith

pub first_end : (p : ℕ → Bool) (xs : List ℕ) → position_or_len p xs ≤ length xs
first_end p xs = prefix_len-le-length (λ x. not (p x)) xs

pub ruleset first_places = (position-or_length, first_end)

abbrev start_of : List ℕ → List ℕ
start_of line = drop (position_or_len is_filler line) line

pub finds : (line token rest : List ℕ) → token ≡ take (end_of (start_of line)) (start_of line)
    → rest ≡ drop (end_of (start_of line)) (start_of line) → tokens_of line ≡ tokens_from token rest
finds line token rest t r =
    sym (tokens-from_start line) ∙ first_word (start_of line)
    ∙ sym (ap (λ (x : List ℕ). tokens_from x rest) t ∙ ap (λ (x : List ℕ). tokens_from (take (end_of (start_of line)) (start_of line)) x) r)

no_start : (start : List ℕ) → Begins start → take (end_of start) start ≡ [] → tokens_of start ≡ []
unfolding tokens_of
no_start [] h e = refl
no_start (b ∷ bs) h e = let k : end_of (b ∷ bs) ≡ suc (end_of bs) = rw h (omega arith) in absurd (let f = rw k at e in cc)

pub no_token : (line token : List ℕ) → token ≡ take (end_of (start_of line)) (start_of line) → length token ≡ 0 → tokens_of line ≡ []
no_token line [] t e = sym (tokens-from_start line) ∙ no_start (start_of line) (begins line) (sym t)
no_token line (b ∷ bs) t e = absurd (omega arith)

pub from_comment : (token rest : List ℕ) → (0 < length token) → get_or token 0 0 ≡ 35 → tokens_from token rest ≡ []
unfolding tokens_from
from_comment token rest h e = grind (arith, nat_tests)

pub from_token : (token rest : List ℕ) → (0 < length token) → (get_or token 0 0 ≡ 35 → ⊥) → tokens_from token rest ≡ token ∷ tokens_of rest
unfolding tokens_from
from_token token rest h e = grind (arith, nat_tests)

-- a text without a line feed is one line
pub one_line : (text : List ℕ) → position is_line_feed text ≡ None → lines_of text ≡ text ∷ []
one_line text h =
    elim (cases_lt (position_or_len is_line_feed text) (length text)) [
      | inl lt ↦ absurd (let f = rw (lt-ltb _ _ lt) at h in cc)
      | inr le ↦ slice_split_none is_line_feed text (λ k d lt. fails_before_first is_line_feed text k d (omega arith))
    ]

-- the first line, and the lines after its line feed
pub first_of_lines : (text : List ℕ) (at : ℕ) → position is_line_feed text ≡ Some at
    → lines_of text ≡ take at text ∷ lines_of (drop (at + 1) text)
first_of_lines text at h = let first = slice_split_first is_line_feed text 0 in grind (arith, nat_tests)
