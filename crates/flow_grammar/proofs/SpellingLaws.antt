-- Tokens write what is worked out from them, and that alone.
use Rattle.std.proofs.Common.{◌≡◌, ℕ, List, [], ◌∷◌, ◌++◌, Bool, true, false, cond, Option, None, Some, refl, subst, append_assoc, ◌-◌, ◌^◌}
use Rattle.std.proofs.Common.{sym, ◌∙◌, arith, map, inl, inr, true≢false, drop}
use Rattle.std.proofs.lemmas.List.Folds.{list_all-append}
use Rattle.std.proofs.lemmas.Bool.{eqb-true, eq-eqb, and_parts, and_from, or_cases}
use Rattle.std.proofs.{lemmas.Slice.Eq.bytes_eq-Decides, lemmas.Bool.Decides.nat_tests, lemmas.List.append-nil}
use Rattle.std.specs.Prelude.{◌⊎◌, codes, ◌==◌, ◌&&◌, ◌||◌}
use Rattle.std.specs.{List.find, List.list_all, Option.option_and_then, Char.is_ascii_digit, Char.is_ascii_alphabetic}
use Rattle.flow_grammar.proofs.Induction.{by_cases}
use Rattle.flow_grammar.proofs.Trees.{folded-Number, folded-Var, folded-Unary, folded-Binary, folded-Sext, folded-Pick}
use Rattle.flow_grammar.specs.{Parts.Word, Parts.New, Parts.Label, Parts.Num, Parts.Use, Parts.AVariable, Trees.Trees}
use Rattle.flow_grammar.specs.{Part, expr_parts, layer_parts, parts, bare_parts, depth_parts, fifo_parts, op_parts, guard_parts, plain}
use Rattle.flow_grammar.specs.{default_depth, default_delay, Operator, Keyword, Verb, operator_word, operators, operator_of, has_delays}
use Rattle.flow_grammar.specs.{is_word, is_number, token_is_name, number_of, Spelled, Spells, Writes, WritesFifo, trees_of, with_token}
use Rattle.flow_grammar.specs.{applied, applied_if, keyword_word, keywords, keyword_of, verb_word, verbs, verb_of, statement_of, flow_of}
use Rattle.flow_grammar.specs.{fifo_of, mem_of, loop_of, at_of, branch_of, input_of, limits_of, op_of, form_of, form_if, op_form_of}
use Rattle.flow_grammar.specs.{op_form_if, Expr, UnOp, BinOp, Op, Statement, Name, Token}
use Rattle.flow_grammar.specs.declared.operator.Operator.TheVariants.{One, Two, Extend, Choose}
use Rattle.flow_design.specs.{declared.expr.Expr.TheOpen.Expr-F, declared.expr.UnOp.TheVariants.Not, declared.expr.BinOp.TheVariants.Add}
use Rattle.flow_design.specs.declared.expr.Expr.TheVariants.{Number, Var, Unary, Binary, Sext, Pick}
use Rattle.flow_design.specs.declared.session.Statement.TheVariants.{Fifo, At, Input}
use Rattle.flow_design.specs.declared.expr.Op.TheVariants as op
use Rattle.flow_grammar.specs.declared.keyword.Keyword.TheVariants as keyword
use Rattle.flow_grammar.specs.declared.keyword.Verb.TheVariants as verb

pub parts_Unary : (o : UnOp) (a : Expr (List ℕ)) → expr_parts (Unary o a) ≡ layer_parts (Expr-F.Unary o (expr_parts a))
unfolding expr_parts
parts_Unary o a = folded-Unary (List ℕ) (List Part) layer_parts o a

-- the parts of trees, one after the other
abbrev all_parts : Trees → List Part
all_parts [] = []
all_parts (e ∷ es) = expr_parts e ++ all_parts es

pub parts_Number : (n : ℕ) → expr_parts (Number n) ≡ layer_parts (Expr-F.Number n)
unfolding expr_parts
parts_Number n = folded-Number (List ℕ) (List Part) layer_parts n

pub parts_Var : (n : List ℕ) → expr_parts (Var n) ≡ layer_parts (Expr-F.Var n)
unfolding expr_parts
parts_Var n = folded-Var (List ℕ) (List Part) layer_parts n

pub parts_Binary : (o : BinOp) (a b : Expr (List ℕ))
    → expr_parts (Binary o a b) ≡ layer_parts (Expr-F.Binary o (expr_parts a) (expr_parts b))
unfolding expr_parts
parts_Binary o a b = folded-Binary (List ℕ) (List Part) layer_parts o a b

pub parts_Sext : (k : ℕ) (a : Expr (List ℕ)) → expr_parts (Sext k a) ≡ layer_parts (Expr-F.Sext k (expr_parts a))
unfolding expr_parts
parts_Sext k a = folded-Sext (List ℕ) (List Part) layer_parts k a

pub parts_Pick : (a b c : Expr (List ℕ)) → expr_parts (Pick a b c) ≡ layer_parts (Expr-F.Pick (expr_parts a) (expr_parts b) (expr_parts c))
unfolding expr_parts
parts_Pick a b c = folded-Pick (List ℕ) (List Part) layer_parts a b c

pub word_is : (t w : List ℕ) → is_word t w ≡ true → t ≡ w
word_is t w h = (bytes_eq-Decides t w).0 h

-- ---- words

-- what is found in a list passes the test
found_passes : {X : Type 0} (p : X → Bool) (xs : List X) (x : X) → find p xs ≡ Some x → p x ≡ true
found_passes p [] x e = absurd cc
found_passes p (y ∷ xs) x e = let later = found_passes p xs x in grind arith

pub keyword_is : (t : List ℕ) (k : Keyword) → keyword_of t ≡ Some k → t ≡ keyword_word k
unfolding keyword_of
keyword_is t k e = word_is t (keyword_word k) (found_passes (λ (x : Keyword). is_word t (keyword_word x)) keywords k e)

pub verb_is : (t : List ℕ) (v : Verb) → verb_of t ≡ Some v → t ≡ verb_word v
unfolding verb_of
verb_is t v e = word_is t (verb_word v) (found_passes (λ (x : Verb). is_word t (verb_word x)) verbs v e)

operator_is : (t : List ℕ) (o : Operator) → operator_of t ≡ Some o → t ≡ operator_word o
unfolding operator_of
operator_is t o e = word_is t (operator_word o) (found_passes (λ (x : Operator). is_word t (operator_word x)) operators o e)

-- ---- tokens

-- a number in front is a tree of its own
number_top : (k : List ℕ) (after : List (List ℕ)) (e : Expr (List ℕ)) (es : Trees) → is_number k ≡ true
    → trees_of (k ∷ after) ≡ Some (e ∷ es) → e ≡ Number (number_of k)
unfolding trees_of with_token
number_top k after e es h t = grind arith

-- ---- tests of the parts of an expression

-- two tests that agree on words, numbers and variables agree on each expression
module _ (p q : Part → Bool) (words : (w : List ℕ) → p (Word w) ≡ q (Word w))
    (numbers : (least most n : ℕ) → p (Num least most n) ≡ q (Num least most n))
    (variables : (x : List ℕ) → p (Use AVariable x) ≡ q (Use AVariable x)) where
  abbrev Same : List Part → Type 0
  Same ps = list_all p ps ≡ list_all q ps

  same_append : (xs ys : List Part) → Same xs → Same ys → Same (xs ++ ys)
  same_append xs ys h k = list_all-append p xs ys ∙ (λ i. h i && k i) ∙ sym (list_all-append q xs ys)

  pub same_tests : (e : Expr (List ℕ)) → Same (expr_parts e)
  same_tests = by_cases (List ℕ) (λ e. Same (expr_parts e)) (record {
    number = λ n. rw (parts_Number n) (λ i. numbers 0 (2 ^ 64 - 1) n i && true);
    var = λ x. rw (parts_Var x) (λ i. variables x i && true);
    unary = λ o a h. rw (parts_Unary o a) (of_unary o (expr_parts a) h);
    binary = λ o a b h k. rw (parts_Binary o a b)
        (λ i. words (operator_word (Two o)) i && same_append (expr_parts a) (expr_parts b) h k i);
    sext = λ w a h. rw (parts_Sext w a) (λ i. words (operator_word Extend) i && (numbers 1 64 w i && h i));
    pick = λ a b c h k l. rw (parts_Pick a b c)
        (λ i. words (operator_word Choose) i
        && same_append (expr_parts a) (expr_parts b ++ expr_parts c) h (same_append (expr_parts b) (expr_parts c) k l) i);
  })
    where
      of_unary : (o : UnOp) (ps : List Part) → Same ps → Same (layer_parts (Expr-F.Unary o ps))
      of_unary Not ps h = λ i. words (operator_word (One Not)) i && h i

-- ---- tokens that spell an expression are read as that expression

-- the tokens spell the parts, as a test
abbrev spells : Token → Part → Bool
spells t (Word w) = is_word t w
spells t (New space n) = token_is_name t && is_word t n
spells t (Use sort n) = token_is_name t && is_word t n
spells t (Label n) = token_is_name t && is_word t n
spells t (Num least most n) = is_number t && (number_of t == n)

abbrev spelled : List Token → List Part → Bool
spelled [] [] = true
spelled (t ∷ ts) (p ∷ ps) = spells t p && spelled ts ps
spelled ts ps = false

spells_is : (t : Token) (p : Part) → spells t p ≡ true → Spells t p
spells_is t (Word w) h = word_is t w h
spells_is t (Num least most n) h = let p = and_parts _ _ h in (p.0, eqb-true _ _ p.1)
spells_is t (New space n) h = let p = and_parts _ _ h in (p.0, word_is t n p.1)
spells_is t (Use sort n) h = let p = and_parts _ _ h in (p.0, word_is t n p.1)
spells_is t (Label n) h = let p = and_parts _ _ h in (p.0, word_is t n p.1)

spelled_is : (ts : List Token) (ps : List Part) → spelled ts ps ≡ true → Spelled ts ps
spelled_is [] [] h = tt
spelled_is (t ∷ ts) (p ∷ ps) h = let both = and_parts _ _ h in (spells_is t p both.0, spelled_is ts ps both.1)
spelled_is ts ps h = absurd (true≢false (sym h))

spelled_by : (ts : List Token) (ps : List Part) → Spelled ts ps → spelled ts ps ≡ true
spelled_by [] [] h = refl
spelled_by (t ∷ ts) (p ∷ ps) h = and_from (spells t p) (spelled ts ps) (by p h.0) (spelled_by ts ps h.1)
  where
    by : (p : Part) → Spells t p → spells t p ≡ true
    by (Word w) s = (bytes_eq-Decides t w).1 s
    by (Num least most n) s = and_from _ _ s.0 (eq-eqb _ _ s.1)
    by (New space n) s = and_from _ _ s.0 ((bytes_eq-Decides t n).1 s.1)
    by (Use sort n) s = and_from _ _ s.0 ((bytes_eq-Decides t n).1 s.1)
    by (Label n) s = and_from _ _ s.0 ((bytes_eq-Decides t n).1 s.1)
spelled_by ts ps h = absurd h

same_word : (t : Token) → is_word t t ≡ true
same_word t = (bytes_eq-Decides t t).1 refl

abbrev operator_token : Operator → List ℕ → Type 0
operator_token o t = (operator_of t ≡ Some o) × (is_number t ≡ false) × (token_is_name t ≡ false)

token_is : (o : Operator) → operator_token o (operator_word o)
unfolding operator_of is_number token_is_name
token_is (Two Add) = (refl, refl, refl)
token_is (Two o) = (refl, refl, refl)
token_is (One Not) = (refl, refl, refl)
token_is o = (refl, refl, refl)

letter_is_no_digit : (b : ℕ) → is_ascii_alphabetic b || (b == 95) ≡ true → is_ascii_digit b ≡ false
letter_is_no_digit b h = grind (arith, nat_tests)

name_is_no_number : (t : List ℕ) → token_is_name t ≡ true → is_number t ≡ false
unfolding token_is_name is_number
name_is_no_number [] h = refl
name_is_no_number (b ∷ bs) h = rw (letter_is_no_digit b (and_parts _ _ h).0) refl

none_spelled : (e : Expr Name) (ps : List Part) → spelled [] (expr_parts e ++ ps) ≡ false
none_spelled = by_cases Name (λ e. (ps : List Part) → spelled [] (expr_parts e ++ ps) ≡ false) (record {
  number = λ n ps. grind (arith, parts_Number);
  var = λ x ps. grind (arith, parts_Var);
  unary = λ o a h ps. grind (arith, parts_Unary);
  binary = λ o a b h k ps. grind (arith, parts_Binary);
  sext = λ w a h ps. grind (arith, parts_Sext);
  pick = λ a b c h k l ps. grind (arith, parts_Pick);
})

-- what a test decides
decided : {P : Type 0} (b : Bool) → (b ≡ true → P) → (b ≡ false) ⊎ P
decided true f = inr (f refl)
decided false f = inl refl

word_cases : (t w : Token) → (is_word t w ≡ false) ⊎ (t ≡ w)
word_cases t w = decided (is_word t w) (word_is t w)

sext_read : (t : Token) (ts : List Token) (k : ℕ) (a : Expr Name) (es : Trees)
    → (spelled ts (all_parts (Number k ∷ a ∷ es)) ≡ true → trees_of ts ≡ Some (Number k ∷ a ∷ es))
    → spelled (t ∷ ts) (expr_parts (Sext k a) ++ all_parts es) ≡ true → trees_of (t ∷ ts) ≡ Some (Sext k a ∷ es)
unfolding trees_of with_token
sext_read t [] k a es later q = absurd (grind (arith, parts_Sext))
sext_read t (u ∷ ts) k a es later q =
    let told = rw parts_Sext at q in
    let found = later (grind (arith, parts_Number)) in
    let is : t ≡ codes "sext" = word_is t (codes "sext") (grind arith) in
    let number : is_number u ≡ true = grind arith in
    let value : number_of u ≡ k = grind (arith, nat_tests) in
    let token = token_is Extend in
    rw (is, found, token.1, token.2, token.0, number, value) refl

trees_read : (ts : List Token) (es : Trees) → spelled ts (all_parts es) ≡ true → trees_of ts ≡ Some es
unfolding trees_of with_token
trees_read [] [] h = refl
trees_read [] (e ∷ es) h = absurd (true≢false (sym h ∙ none_spelled e (all_parts es)))
trees_read (t ∷ ts) [] h = absurd (true≢false (sym h))
trees_read (t ∷ ts) (e ∷ es) h =
    by_cases Name (λ x. spelled (t ∷ ts) (expr_parts x ++ all_parts es) ≡ true → trees_of (t ∷ ts) ≡ Some (x ∷ es)) (record {
      number = λ n q. let later = trees_read ts es in grind (arith, nat_tests, parts_Number);
      var = λ x q. let later = trees_read ts es in let other = name_is_no_number t in grind (arith, word_cases, parts_Var);
      unary = λ o a i q.
          let later = trees_read ts (a ∷ es) in let token = token_is (One o) in grind (arith, word_cases, parts_Unary);
      binary = λ o a b i j q.
          let later = trees_read ts (a ∷ b ∷ es) in let token = token_is (Two o) in
          grind (arith, word_cases, parts_Binary, append_assoc);
      sext = λ k a i q. sext_read t ts k a es (trees_read ts (Number k ∷ a ∷ es)) q;
      pick = λ a b c i j k q.
          let later = trees_read ts (a ∷ b ∷ c ∷ es) in let token = token_is Choose in
          grind (arith, word_cases, parts_Pick, append_assoc);
    }) e h

-- ---- tokens that write a statement are read as that statement

-- ---- operations

one_read : (us : List Token) (e : Expr Name) → (spelled us (expr_parts e) ≡ false) ⊎ (trees_of us ≡ Some (e ∷ []))
one_read us e = decided (spelled us (expr_parts e)) (λ h. trees_read us (e ∷ []) (rw append-nil h))

two_read : (us : List Token) (e f : Expr Name) → (spelled us (expr_parts e ++ expr_parts f) ≡ false) ⊎ (trees_of us ≡ Some (e ∷ f ∷ []))
two_read us e f = decided (spelled us (expr_parts e ++ expr_parts f)) (λ h. trees_read us (e ∷ f ∷ []) (rw append-nil h))

op_read : (ts : List Token) (o : Op Name) → spelled ts (op_parts o) ≡ true → op_of ts ≡ Some o
unfolding op_of verb_of
op_read ts (op.Store m e f) h = grind (arith, word_cases, two_read)
op_read ts o h = grind (arith, word_cases, one_read)

-- an operation does not begin with `if`
no_guard : (k : Token) (ts : List Token) (o : Op Name) → spelled (k ∷ ts) (op_parts o) ≡ true → is_word k (codes "if") ≡ false
no_guard k ts (op.Set r e) h = grind (arith, word_cases)
no_guard k ts o h = grind (arith, word_cases)

-- ---- statements

values_read : (ts : List Token) (values : List ℕ) → spelled ts (map plain values) ≡ true
    → (list_all is_number ts ≡ true) × (map number_of ts ≡ values)
values_read [] [] h = (refl, refl)
values_read (t ∷ ts) (v ∷ vs) h = let later = values_read ts vs in (grind (arith, nat_tests), grind (arith, nat_tests))
values_read [] (v ∷ vs) h = absurd (true≢false (sym h))
values_read (t ∷ ts) [] h = absurd (true≢false (sym h))

module _ (version : ℕ) where
  abbrev Read : List Token → Statement → Type 0
  Read ts s = statement_of version ts ≡ Some s

  fifo_read : (ts : List Token) (n : Name) (w depth delay : ℕ) → WritesFifo version ts n w depth delay → Read ts (Fifo n w depth delay)
  unfolding statement_of keyword_of fifo_of
  fifo_read [] n w depth delay h = absurd (elim h [ inl a ↦ a.1 | inr b ↦ elim b [ inl c ↦ c.1 | inr d ↦ d.2 ] ])
  fifo_read (k ∷ ts) n w depth delay (inl h) =
      let told = spelled_by ts (drop 1 (fifo_parts n w depth delay)) h.1.1 in
      rw h.1.0 (grind (arith, nat_tests, word_cases))
  fifo_read (k ∷ ts) n w depth delay (inr (inl h)) =
      let told = spelled_by ts (drop 1 (depth_parts n w depth)) h.1.1 in
      rw h.1.0 (grind (arith, nat_tests, word_cases))
  fifo_read (k ∷ ts) n w depth delay (inr (inr h)) =
      let told = spelled_by ts (drop 1 (bare_parts n w)) h.2.1 in
      rw h.2.0 (grind (arith, nat_tests, word_cases))

  at_read : (ts : List Token) (off : ℕ) (guard : Option Name) (o : Op Name)
      → spelled ts (plain off ∷ guard_parts guard ++ op_parts o) ≡ true → at_of ts ≡ Some (At off guard o)
  unfolding at_of
  at_read (t ∷ ts) off None o h = grind (arith, nat_tests, op_read, no_guard)
  at_read (t ∷ i ∷ r ∷ ts) off (Some x) o h = let after = op_read ts o in grind (arith, nat_tests, word_cases)
  at_read ts off guard o h = absurd (grind arith)

  -- tokens that write a statement are read as it
  pub written_is_read : (ts : List Token) (s : Statement) → Writes version ts s → Read ts s
  unfolding statement_of keyword_of flow_of mem_of loop_of branch_of input_of limits_of
  written_is_read ts (Fifo n w depth delay) h = fifo_read ts n w depth delay h
  written_is_read (k ∷ ts) (At off guard o) h =
      rw h.0 (at_read ts off guard o (spelled_by ts (drop 1 (parts (At off guard o))) h.1))
  written_is_read (k ∷ ts) (Input n values) h =
      let told = spelled_by ts (drop 1 (parts (Input n values))) h.1 in
      rw h.0 (grind (arith, nat_tests, word_cases, values_read))
  written_is_read (k ∷ ts) s h =
      let told = spelled_by ts (drop 1 (parts s)) h.1 in rw h.0 (grind (arith, nat_tests, word_cases))
  written_is_read [] s h = absurd h

-- ---- the statement that is worked out from tokens is one that they write

applied_told : (t : Token) (after : List Token) (o : Operator) (found es : Trees) → trees_of after ≡ Some found
    → spelled after (all_parts found) ≡ true → is_word t (operator_word o) ≡ true → applied o after found ≡ Some es
    → spelled (t ∷ after) (all_parts es) ≡ true
applied_told t after (One Not) found es e s w h = grind (arith, parts_Unary)
applied_told t after (Two o) found es e s w h = grind (arith, parts_Binary, append_assoc)
applied_told t after Choose found es e s w h = grind (arith, parts_Pick, append_assoc)
applied_told t (k ∷ after) Extend (number ∷ a ∷ rest) es e s w h =
    let top = number_top k after number (a ∷ rest) in grind (arith, nat_tests, parts_Number, parts_Sext)
applied_told t after Extend found es e s w h = absurd cc

token_told : (t : Token) (after : List Token) (found es : Trees) → trees_of after ≡ Some found
    → spelled after (all_parts found) ≡ true → with_token t after found ≡ Some es → spelled (t ∷ after) (all_parts es) ≡ true
unfolding with_token
token_told t after found es e s h = by (operator_of t) refl h
  where
    by : (o : Option Operator) → operator_of t ≡ o
        → cond (is_number t) (Some (Number (number_of t) ∷ found))
        (cond (token_is_name t) (Some (Var t ∷ found)) (applied_if o after found)) ≡ Some es
        → spelled (t ∷ after) (all_parts es) ≡ true
    by None is q = grind (arith, nat_tests, parts_Number, parts_Var, same_word)
    by (Some o) is q =
        let applied = applied_told t after o found es e s ((bytes_eq-Decides t (operator_word o)).1 (operator_is t o is)) in
        grind (arith, nat_tests, parts_Number, parts_Var, same_word)

trees_told : (ts : List Token) (es : Trees) → trees_of ts ≡ Some es → spelled ts (all_parts es) ≡ true
unfolding trees_of
trees_told [] es e = grind arith
trees_told (t ∷ after) es e = by (trees_of after) refl (trees_told after) e
  where
    by : (found : Option Trees) → trees_of after ≡ found
        → ((xs : Trees) → trees_of after ≡ Some xs → spelled after (all_parts xs) ≡ true)
        → option_and_then (with_token t after) found ≡ Some es → spelled (t ∷ after) (all_parts es) ≡ true
    by None is later q = absurd cc
    by (Some found) is later q = token_told t after found es is (later found is) q

one_told : (us : List Token) (e : Expr Name) → trees_of us ≡ Some (e ∷ []) → spelled us (expr_parts e) ≡ true
one_told us e h = rw (← append-nil (expr_parts e)) (trees_told us (e ∷ []) h)

two_told : (us : List Token) (e f : Expr Name) → trees_of us ≡ Some (e ∷ f ∷ []) → spelled us (expr_parts e ++ expr_parts f) ≡ true
two_told us e f h =
    subst (λ (ps : List Part). spelled us (expr_parts e ++ ps) ≡ true) (append-nil (expr_parts f)) (trees_told us (e ∷ f ∷ []) h)

-- ---- operations

form_told : (v : Verb) (ts : List Token) (o : Op Name) → op_form_of v ts ≡ Some o → spelled (verb_word v ∷ ts) (op_parts o) ≡ true
form_told verb.Store ts o h = grind (arith, same_word, two_told)
form_told v ts o h = grind (arith, same_word, one_told)

op_told : (ts : List Token) (o : Op Name) → op_of ts ≡ Some o → spelled ts (op_parts o) ≡ true
unfolding op_of
op_told [] o h = absurd cc
op_told (k ∷ ts) o h = by (verb_of k) refl h
  where
    by : (found : Option Verb) → verb_of k ≡ found → op_form_if found ts ≡ Some o → spelled (k ∷ ts) (op_parts o) ≡ true
    by None e q = absurd cc
    by (Some v) e q = rw (verb_is k v e) (form_told v ts o q)

-- ---- statements

values_told : (ts : List Token) → list_all is_number ts ≡ true → spelled ts (map plain (map number_of ts)) ≡ true
values_told [] h = refl
values_told (t ∷ ts) h = let later = values_told ts in grind (arith, nat_tests)

module _ (version : ℕ) where
  -- the tokens write the statement, as a test
  abbrev writes : List Token → Statement → Bool
  writes ts (Fifo n w depth delay) =
      (has_delays version && spelled ts (fifo_parts n w depth delay))
      || (((delay == default_delay) && spelled ts (depth_parts n w depth))
      || ((depth == default_depth) && ((delay == default_delay) && spelled ts (bare_parts n w))))
  writes ts s = spelled ts (parts s)

  writes_is : (ts : List Token) (s : Statement) → writes ts s ≡ true → Writes version ts s
  writes_is ts (Fifo n w depth delay) h = elim (or_cases _ _ h) [
    | inl a ↦ let p = and_parts _ _ a in inl (p.0, spelled_is ts _ p.1)
    | inr b ↦ inr (elim (or_cases _ _ b) [
      | inl c ↦ let p = and_parts _ _ c in inl (eqb-true _ _ p.0, spelled_is ts _ p.1)
      | inr d ↦
          let p = and_parts _ _ d in let q = and_parts _ _ p.1 in
          inr (eqb-true _ _ p.0, eqb-true _ _ q.0, spelled_is ts _ q.1)
    ])
  ]
  writes_is ts s h = spelled_is ts (parts s) h

  fifo_told : (ts : List Token) (s : Statement) → fifo_of version ts ≡ Some s → writes (keyword_word keyword.Fifo ∷ ts) s ≡ true
  unfolding fifo_of
  fifo_told (n ∷ w ∷ []) s h = grind (arith, nat_tests, same_word)
  fifo_told (n ∷ w ∷ d ∷ []) s h = grind (arith, nat_tests, same_word)
  fifo_told (n ∷ w ∷ d ∷ e ∷ []) s h = grind (arith, nat_tests, same_word)
  fifo_told ts s h = absurd cc

  at_told : (ts : List Token) (s : Statement) → at_of ts ≡ Some s → writes (keyword_word keyword.At ∷ ts) s ≡ true
  unfolding at_of
  at_told [] s h = absurd cc
  at_told (off ∷ i ∷ r ∷ ts) s h =
      let first = op_told (i ∷ r ∷ ts) in let after = op_told ts in grind (arith, nat_tests, same_word)
  at_told (off ∷ ts) s h = let first = op_told ts in grind (arith, nat_tests, same_word)

  told : (k : Keyword) (ts : List Token) (s : Statement) → form_of version k ts ≡ Some s → writes (keyword_word k ∷ ts) s ≡ true
  unfolding flow_of mem_of loop_of branch_of input_of limits_of
  told keyword.Fifo ts s h = fifo_told ts s h
  told keyword.At ts s h = at_told ts s h
  told keyword.Input ts s h = grind (arith, nat_tests, same_word, values_told)
  told k ts s h = grind (arith, nat_tests, same_word)

  -- the statement that is worked out is written
  pub read_is_written : (ts : List Token) (s : Statement) → statement_of version ts ≡ Some s → Writes version ts s
  unfolding statement_of
  read_is_written [] s h = absurd cc
  read_is_written (k ∷ ts) s h = by (keyword_of k) refl h
    where
      by : (found : Option Keyword) → keyword_of k ≡ found → form_if version found ts ≡ Some s → Writes version (k ∷ ts) s
      by None e q = absurd cc
      by (Some keyword) e q =
          subst (λ (t : Token). Writes version (t ∷ ts) s) (sym (keyword_is k keyword e))
          (writes_is (keyword_word keyword ∷ ts) s (told keyword ts s q))
