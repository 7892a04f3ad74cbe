-- The lines and the tokens of texts that are put together from tokens without spaces.
use Rattle.std.proofs.Common.{◌≡◌, ℕ, List, [], ◌∷◌, ◌++◌, map, Bool, true, not, refl, ap, ◌∙◌, append_assoc, arith}
use Rattle.std.proofs.{lemmas.List.Folds.list_all-append, lemmas.List.Splits.slice_split-cons_yes, lemmas.List.Splits.slice_split-cons_no}
use Rattle.std.proofs.{lemmas.List.Sums.take_while-cons, lemmas.Bool.and_parts, lemmas.Bool.Decides.nat_tests}
use Rattle.std.specs.Prelude.{◌&&◌, nat_le, filter, take_while}
use Rattle.std.specs.List.{list_all, slice_split, join_with_byte}
use Rattle.flow_print.specs.{is_line_feed, is_separator, is_permitted, is_filled, is_no_comment, lines_of, tokens_of, text_of_lines, Token}

-- ---- lists that a test splits

module _ (p : ℕ → Bool) where
  abbrev pub is_other : ℕ → Bool
  is_other b = not (p b)

  -- the prefix up to the first byte that splits
  pub split_front : (w : List ℕ) (x : ℕ) (rest : List ℕ) → list_all is_other w ≡ true → p x ≡ true
      → slice_split p (w ++ x ∷ rest) ≡ w ∷ slice_split p rest
  split_front [] x rest h e = slice_split-cons_yes p x rest e
  split_front (b ∷ w) x rest h e =
      let later = split_front w x rest in let more = slice_split-cons_no p b (w ++ x ∷ rest) in grind arith

  -- no byte that splits
  split_alone : (w : List ℕ) → list_all is_other w ≡ true → slice_split p w ≡ w ∷ []
  split_alone [] h = refl
  split_alone (b ∷ w) h = let later = split_alone w in let more = slice_split-cons_no p b w in grind arith

  -- what is joined by a byte that splits
  pub split_joined : (x : ℕ) → p x ≡ true → (t : List ℕ) (ts : List (List ℕ)) → list_all (list_all is_other) (t ∷ ts) ≡ true
      → slice_split p (join_with_byte x (t ∷ ts)) ≡ t ∷ ts
  split_joined x e t [] h = let alone = split_alone t in grind arith
  split_joined x e t (u ∷ us) h =
      let later = split_joined x e u us in let front = split_front t x (join_with_byte x (u ∷ us)) in grind arith

-- ---- tokens that are printed

abbrev pub is_visible : ℕ → Bool
is_visible b = nat_le 33 b && nat_le b 126

-- a token in a line: visible bytes, and not the beginning of a comment
unfoldable pub is_printed : Token → Bool
is_printed t = is_filled t && (is_no_comment t && list_all is_visible t)

pub all_of : (q r : ℕ → Bool) → ((b : ℕ) → q b ≡ true → r b ≡ true) → (bs : List ℕ) → list_all q bs ≡ true → list_all r bs ≡ true
all_of q r step [] h = refl
all_of q r step (b ∷ bs) h = let here = step b in let later = all_of q r step bs in grind arith

visible_separates : (b : ℕ) → is_visible b ≡ true → is_other is_separator b ≡ true
visible_separates b h = grind (arith, nat_tests)

visible_in_line : (b : ℕ) → is_visible b ≡ true → is_other is_line_feed b ≡ true
visible_in_line b h = grind (arith, nat_tests)

visible_permitted : (b : ℕ) → is_visible b ≡ true → is_permitted b ≡ true
visible_permitted b h = grind (arith, nat_tests)

token_bytes : (t : Token) → is_printed t ≡ true → list_all is_visible t ≡ true
unfolding is_printed
token_bytes t h = grind arith

tokens_bytes : (r : ℕ → Bool) → ((b : ℕ) → is_visible b ≡ true → r b ≡ true) → (ts : List Token) → list_all is_printed ts ≡ true
    → list_all (list_all r) ts ≡ true
tokens_bytes r step [] h = refl
tokens_bytes r step (t ∷ ts) h =
    let bytes = token_bytes t in let here = all_of is_visible r step t in let later = tokens_bytes r step ts in grind arith

all_joined : (r : ℕ → Bool) → r 32 ≡ true → (ts : List Token) → list_all (list_all r) ts ≡ true → list_all r (join_with_byte 32 ts) ≡ true
all_joined r e [] h = refl
all_joined r e (t ∷ []) h = grind arith
all_joined r e (t ∷ u ∷ us) h =
    let later = all_joined r e (u ∷ us) in let both = list_all-append r t (32 ∷ join_with_byte 32 (u ∷ us)) in grind arith

-- the bytes of a line of printed tokens may stand in a line
pub line_permitted : (ts : List Token) → list_all is_printed ts ≡ true → list_all is_permitted (join_with_byte 32 ts) ≡ true
line_permitted ts h = all_joined is_permitted refl ts (tokens_bytes is_permitted visible_permitted ts h)

no_comment : (ts : List Token) → list_all is_printed ts ≡ true → take_while is_no_comment (filter is_filled ts) ≡ ts
unfolding is_printed
no_comment [] h = refl
no_comment (t ∷ ts) h =
    let later = no_comment ts in let more = take_while-cons is_no_comment t (filter is_filled ts) in grind arith

-- the lines of a text of lines, after the last of which there is one without a byte
pub text_lines : (tss : List (List Token)) → list_all (list_all is_printed) tss ≡ true
    → lines_of (text_of_lines tss) ≡ map (join_with_byte 32) tss ++ [] ∷ []
text_lines [] h = refl
text_lines (ts ∷ tss) h =
    let parts = and_parts (list_all is_printed ts) (list_all (list_all is_printed) tss) h in
    ap lines_of (append_assoc (join_with_byte 32 ts) (10 ∷ []) (text_of_lines tss))
    ∙ split_front is_line_feed (join_with_byte 32 ts) 10 (text_of_lines tss)
    (all_joined (is_other is_line_feed) refl ts (tokens_bytes (is_other is_line_feed) visible_in_line ts parts.0)) refl
    ∙ ap (λ (r : List (List ℕ)). join_with_byte 32 ts ∷ r) (text_lines tss parts.1)

-- the same for any printed tokens
pub tokens_of_line : (ts : List Token) → list_all is_printed ts ≡ true → tokens_of (join_with_byte 32 ts) ≡ ts
unfolding tokens_of
tokens_of_line [] h = refl
tokens_of_line (t ∷ ts) h =
    ap (λ (parts : List Token). take_while is_no_comment (filter is_filled parts))
    (split_joined is_separator 32 refl t ts (tokens_bytes (is_other is_separator) visible_separates (t ∷ ts) h))
    ∙ no_comment (t ∷ ts) h
