-- The token of each part of a statement that keeps the rules is printed whole, and spells the part.
use Rattle.std.proofs.Common.{◌≡◌, ℕ, ◌+◌, ◌<◌, ◌≤◌, ◌^◌, ◌%◌, List, [], ◌∷◌, ◌++◌, map, length, Bool, true, not, Option, refl, ◌∙◌, arith}
use Rattle.std.proofs.lemmas.Bool.{and_parts, leb-true, ltb-true, and_from}
use Rattle.std.proofs.{lemmas.Bool.Decides.nat_tests, lemmas.List.Folds.list_all-append}
use Rattle.std.proofs.lemmas.Fmt.{decimal_is_IsNumeral, decimal_by_steps, decimal_nonempty}
use Rattle.std.specs.{Prelude.◌==◌, Prelude.nat_lt, Char.is_ascii_digit, Fmt.decimal, List.list_all}
use Rattle.flow_print.specs.{Expr, UnOp, BinOp, Op, Statement, is_name_byte, Token, Name, is_filled, is_number, token_is_name, number_of}
use Rattle.flow_print.specs.{Part, parts, op_parts, guard_parts, expr_parts, plain, binary_word, Spells, Spelled, is_well_named}
use Rattle.flow_print.specs.{is_in_range, token_of, written_parts}
use Rattle.flow_design.specs.{declared.expr.Expr.TheVariants.Unary, declared.expr.UnOp.TheVariants.Not, declared.expr.BinOp.TheVariants.Add}
use Rattle.flow_design.specs.declared.session.Statement.TheVariants.{Fifo, At, Input}
use Rattle.flow_grammar.specs.Parts.{Word, New, Use, Label, Num}
use Rattle.flow_grammar.proofs.Induction.{by_cases}
use Rattle.flow_grammar.proofs.SpellingLaws.{parts_Number, parts_Var, parts_Unary, parts_Binary, parts_Sext, parts_Pick}
use Rattle.flow_print.proofs.SplitLemmas.{is_visible, is_printed, all_of}
use Rattle.flow_design.specs.declared.expr.Op.TheVariants as op

-- ---- numbers

digit_is : (d : ℕ) → d < 10 → is_ascii_digit (48 + d) ≡ true
digit_is d h = grind (arith, nat_tests)

digit_visible : (b : ℕ) → is_ascii_digit b ≡ true → is_visible b ≡ true
digit_visible b h = grind (arith, nat_tests)

digit_after : (ds : List ℕ) (b : ℕ) → list_all is_ascii_digit ds ≡ true → is_ascii_digit b ≡ true
    → list_all is_ascii_digit (ds ++ b ∷ []) ≡ true
digit_after ds b h k = let both = list_all-append is_ascii_digit ds (b ∷ []) in grind arith

digits_all : (n : ℕ) → n < 2 ^ 64 → list_all is_ascii_digit (decimal n) ≡ true
digits_all n h = decimal_by_steps (λ _ ds. list_all is_ascii_digit ds ≡ true)
    (λ m l. and_from (is_ascii_digit (48 + m)) true (digit_is m l) refl)
    (λ m ds l rest. digit_after ds (48 + m % 10) rest (digit_is (m % 10) (omega arith))) n h

filled_of : (t : Token) → 0 < length t → is_filled t ≡ true
filled_of t h = grind arith

no_hash : (b : ℕ) → is_ascii_digit b ≡ true → not (b == 35) ≡ true
no_hash b h = grind (arith, nat_tests)

digits_printed : (t : Token) → 0 < length t → list_all is_ascii_digit t ≡ true → is_printed t ≡ true
unfolding is_printed
digits_printed [] h k = absurd (omega arith)
digits_printed (b ∷ bs) h k =
    let visible = all_of is_ascii_digit is_visible digit_visible (b ∷ bs) k in let first = no_hash b in grind arith

number_printed : (n : ℕ) → n < 2 ^ 64 → is_printed (decimal n) ≡ true
number_printed n h = digits_printed (decimal n) (decimal_nonempty n h) (digits_all n h)

number_spelled : (n : ℕ) → n < 2 ^ 64 → (is_number (decimal n) ≡ true) × (number_of (decimal n) ≡ n)
unfolding is_number
number_spelled n h =
    let filled = filled_of (decimal n) (decimal_nonempty n h) in let digits = digits_all n h in
    (grind arith, (decimal_is_IsNumeral n h).1)

-- ---- names

letter_visible : (b : ℕ) → is_name_byte b ≡ true → is_visible b ≡ true
letter_visible b h = grind (arith, nat_tests)

letter_no_hash : (b : ℕ) → is_name_byte b ≡ true → not (b == 35) ≡ true
letter_no_hash b h = grind (arith, nat_tests)

name_printed : (t : Token) → token_is_name t ≡ true → is_printed t ≡ true
unfolding token_is_name is_printed
name_printed [] h = absurd cc
name_printed (b ∷ bs) h =
    let visible = all_of is_name_byte is_visible letter_visible (b ∷ bs) in let first = letter_no_hash b in grind arith

-- ---- parts

-- a word is printed whole, and a number's range has words alone
abbrev pub is_fit : Part → Bool
is_fit (Word w) = is_printed w
is_fit (Num least most n) = nat_lt most (2 ^ 64)
is_fit part = true

pub part_printed : (p : Part) → is_fit p ≡ true → is_well_named p ≡ true → is_in_range p ≡ true
    → (is_printed (token_of p) ≡ true) × Spells (token_of p) p
part_printed (Word w) f n r = (f, refl)
part_printed (New space name) f n r = (name_printed name n, (n, refl))
part_printed (Use sort name) f n r = (name_printed name n, (n, refl))
part_printed (Label name) f n r = (name_printed name n, (n, refl))
part_printed (Num least most k) f n r =
    let within = and_parts _ _ r in
    let upper : k ≤ most = leb-true k most within.1 in
    let bound : most < 2 ^ 64 = ltb-true most (2 ^ 64) f in
    let small : k < 2 ^ 64 = omega arith in
    (number_printed k small, number_spelled k small)

pub parts_printed : (ps : List Part) → list_all is_fit ps ≡ true → list_all is_well_named ps ≡ true → list_all is_in_range ps ≡ true
    → (list_all is_printed (map token_of ps) ≡ true) × Spelled (map token_of ps) ps
parts_printed [] f n r = (refl, tt)
parts_printed (p ∷ ps) f n r =
    let here = part_printed p (grind arith) (grind arith) (grind arith) in
    let rest = parts_printed ps (grind arith) (grind arith) (grind arith) in
    (and_from _ _ here.0 rest.0, (here.1, rest.1))

fit_append : (ps qs : List Part) → list_all is_fit ps ≡ true → list_all is_fit qs ≡ true → list_all is_fit (ps ++ qs) ≡ true
fit_append ps qs h k = list_all-append is_fit ps qs ∙ and_from (list_all is_fit ps) (list_all is_fit qs) h k

fit_binary : (o : BinOp) → is_printed (binary_word o) ≡ true
unfolding is_printed
fit_binary Add = refl
fit_binary o = refl

abbrev Fit : Expr Name → Type 0
Fit e = list_all is_fit (expr_parts e) ≡ true

fit_unary : (o : UnOp) (a : Expr Name) → Fit a → Fit (Unary o a)
unfolding is_printed
fit_unary Not a h = rw (parts_Unary Not a) h

fit_expr : (e : Expr Name) → Fit e
unfolding is_printed
fit_expr = by_cases Name Fit (record {
  number = λ n. rw (parts_Number n) refl;
  var = λ x. rw (parts_Var x) refl;
  unary = fit_unary;
  binary = λ o a b h k. rw (parts_Binary o a b)
      (and_from (is_printed (binary_word o)) (list_all is_fit (expr_parts a ++ expr_parts b)) (fit_binary o)
      (fit_append (expr_parts a) (expr_parts b) h k));
  sext = λ k a h. rw (parts_Sext k a) h;
  pick = λ a b c h k l. rw (parts_Pick a b c)
      (fit_append (expr_parts a) (expr_parts b ++ expr_parts c) h (fit_append (expr_parts b) (expr_parts c) k l));
})

fit_op : (o : Op Name) → list_all is_fit (op_parts o) ≡ true
unfolding is_printed
fit_op (op.Set r e) = fit_expr e
fit_op o = grind (arith, fit_expr, list_all-append)

fit_guard : (guard : Option Name) → list_all is_fit (guard_parts guard) ≡ true
unfolding is_printed
fit_guard guard = grind arith

fit_values : (values : List ℕ) → list_all is_fit (map plain values) ≡ true
fit_values [] = refl
fit_values (v ∷ values) = fit_values values

-- what is written of a statement passes the tests that its parts pass
module _ (version : ℕ) where
  pub fit_parts : (s : Statement) → list_all is_fit (written_parts version s) ≡ true
  unfolding is_printed
  fit_parts (Fifo n w depth delay) = grind arith
  fit_parts (At off guard o) = fit_append (guard_parts guard) (op_parts o) (fit_guard guard) (fit_op o)
  fit_parts (Input n values) = fit_values values
  fit_parts s = refl

  pub written_pass : (test : Part → Bool) (s : Statement) → list_all test (parts s) ≡ true → list_all test (written_parts version s) ≡ true
  written_pass test (Fifo n w depth delay) h = grind arith
  written_pass test s h = h
