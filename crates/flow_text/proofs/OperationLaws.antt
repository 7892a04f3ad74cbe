-- What is kept of expressions and operations is the first test that they fail.
use Rattle.std.proofs.Common.{◌≡◌, List, [], ◌∷◌, map, Bool, true, false, cond, Option, None, Some, Result, Ok, refl, sym, ap, ◌∙◌, arith}
use Rattle.std.proofs.Common.{Err, ◌<◌, ◌≤◌, length, ℕ, ◌-◌, ◌^◌, subst, drop, get_or, take}
use Rattle.std.proofs.{Math.Seq.take-length, lemmas.List.Folds.list_all-append}
use Rattle.std.specs.{Prelude.◌&&◌, Prelude.option_map, List.list_all}
use Rattle.flow_text.specs.{Expr, Op, Statement, Name, Token, Code, ParsedOperand, Part, expr_parts, op_parts, is_among, token_is_name}
use Rattle.flow_text.specs.{operand_kept, is_known_by, earlier, only_operand, both_operands, LineGives, LineFail, number_within, one_tree}
use Rattle.flow_text.specs.{two_trees, if_then, guarded_of, op_of, Tables, TwoNames, is_known_in, is_new_in, fault_by, reading_by}
use Rattle.flow_text.specs.{tree_judged, trees_judged, op_judged, tree_reading, trees_reading, op_reading, tree_kept, trees_kept, tree_made}
use Rattle.flow_text.specs.{store_op, op_of_names, named_op, is_variable, timed_reading, guard_known}
use Rattle.flow_design.specs.declared.session.Statement.TheVariants.{At}
use Rattle.flow_grammar.specs.{declared.fault.Code.TheVariants.Syntax, Trees.Trees}
use Rattle.flow_grammar.proofs.SpellingLaws.{same_tests}
use Rattle.flow_design.specs.declared.expr.Op.TheVariants as op

-- tokens by the names in front of them, and the others
pub one_front : {A : Type 0} (f : A → Token) (d : A) (xs : List A) (x : Token) → x ≡ f (get_or xs 0 d) → 1 ≤ length xs
    → map f xs ≡ x ∷ map f (take (length xs - 1) (drop 1 xs))
one_front f d [] x e h = absurd (omega arith)
one_front f d (a ∷ xs) x e h =
    let less : length (a ∷ xs) - 1 ≡ length xs = omega arith in
    λ i. sym e i ∷ map f (sym (ap (λ (n : ℕ). take n xs) less ∙ take-length xs) i)

pub two_front : {A : Type 0} (f : A → Token) (d e : A) (xs : List A) (x y : Token) → x ≡ f (get_or xs 0 d) → y ≡ f (get_or xs 1 e)
    → 2 ≤ length xs → map f xs ≡ x ∷ y ∷ map f (take (length xs - 2) (drop 2 xs))
two_front f d e [] x y p q h = absurd (omega arith)
two_front f d e (a ∷ []) x y p q h = absurd (omega arith)
two_front f d e (a ∷ b ∷ xs) x y p q h =
    let less : length (a ∷ b ∷ xs) - 2 ≡ length xs = omega arith in
    λ i. sym p i ∷ sym q i ∷ map f (sym (ap (λ (n : ℕ). take n xs) less ∙ take-length xs) i)

module _ (t : Tables) where
  -- ---- the tests of an expression

  -- what the reader keeps of it
  abbrev kept_of : Expr Name → ParsedOperand
  kept_of e = operand_kept (is_variable t) e

  -- parts whose names are known where they are variables
  abbrev Agrees : List Part → Type 0
  Agrees ps = list_all (is_known_in t) ps ≡ list_all (is_known_by (is_variable t)) ps

  -- the names of an expression are all variables
  variables : (e : Expr Name) → Agrees (expr_parts e)
  variables e = same_tests (is_known_in t) (is_known_by (is_variable t)) (λ w. refl) (λ least most n. refl) (λ x. refl) e

  -- ---- expressions beside names that are known or not

  -- one is the first test that it fails
  tree_is : (known : Bool) (e : Expr Name) → tree_kept known (kept_of e) ≡ tree_judged t known e
  unfolding operand_kept tree_judged
  tree_is known e = grind arith

  -- two are the first test that one of them fails
  trees_are : (known : Bool) (e f : Expr Name)
      → trees_kept (tree_kept known (kept_of e)) (tree_kept true (kept_of f)) ≡ trees_judged t known e f
  unfolding operand_kept trees_judged earlier
  trees_are known e f = grind arith

  -- ---- what tokens give that write these expressions

  -- what is kept of them
  abbrev found_in : Option Trees → Option (List ParsedOperand)
  found_in trees = option_map (map (operand_kept (is_variable t))) trees

  pub tree_of_operand : (known : Bool) (trees : Option Trees) (o : ParsedOperand) → only_operand (found_in trees) ≡ Ok o
      → tree_reading t known trees ≡ Ok (tree_kept known o)
  tree_of_operand known trees o h = grind (arith, tree_is)

  pub trees_of_operands : (known : Bool) (trees : Option Trees) (o p : ParsedOperand) → both_operands (found_in trees) ≡ Ok (o, p)
      → trees_reading t known trees ≡ Ok (trees_kept (tree_kept known o) (tree_kept true p))
  trees_of_operands known trees o p h = grind (arith, trees_are)

  -- ---- operations with one expression

  -- ---- the operation with two

  -- ---- what tokens give that write such operations

  pub set_reads : (r : Name) (trees : Option Trees)
      → op_reading t (if_then (token_is_name r) (option_map (op.Set r) (one_tree trees)))
      ≡ cond (token_is_name r) (tree_made (op.Set r) (tree_reading t (is_variable t r) trees)) (Err Syntax)
  unfolding op_judged tree_judged
  set_reads r trees = grind (arith, variables)

  pub load_reads : (r m : Name) (trees : Option Trees)
      → op_reading t (if_then (token_is_name r && token_is_name m) (option_map (op.Load r m) (one_tree trees)))
      ≡ cond (token_is_name r && token_is_name m)
      (tree_made (op.Load r m) (tree_reading t (is_variable t r && is_among t.memories m) trees)) (Err Syntax)
  unfolding op_judged tree_judged
  load_reads r m trees = grind (arith, variables)

  pub write_reads : (f : Name) (trees : Option Trees)
      → op_reading t (if_then (token_is_name f) (option_map (op.Write f) (one_tree trees)))
      ≡ cond (token_is_name f) (tree_made (op.Write f) (tree_reading t (is_among t.channels f) trees)) (Err Syntax)
  unfolding op_judged tree_judged
  write_reads f trees = grind (arith, variables)

  pub try_write_reads : (f ok : Name) (trees : Option Trees)
      → op_reading t (if_then (token_is_name f && token_is_name ok) (option_map (op.TryWrite f ok) (one_tree trees)))
      ≡ cond (token_is_name f && token_is_name ok)
      (tree_made (op.TryWrite f ok) (tree_reading t (is_among t.channels f && is_variable t ok) trees))
      (Err Syntax)
  unfolding op_judged tree_judged
  try_write_reads f ok trees = grind (arith, variables)

  pub store_reads : (m : Name) (trees : Option Trees)
      → op_reading t (if_then (token_is_name m) (two_trees (op.Store m) trees))
      ≡ cond (token_is_name m) (tree_made (store_op m) (trees_reading t (is_among t.memories m) trees)) (Err Syntax)
  unfolding op_judged trees_judged
  store_reads m trees = grind (arith, variables, list_all-append)

  -- ---- operations on names alone

  pub two_names_is : (which : TwoNames) (f r : Name)
      → op_judged t (op_of_names which f r) ≡ named_op (is_among t.channels f && is_variable t r) (op_of_names which f r)
  unfolding op_judged
  two_names_is which f r = grind arith

  -- the read with an outcome
  pub try_read_is : (f r ok : Name)
      → op_judged t (op.TryRead f r ok) ≡ named_op (is_among t.channels f && (is_variable t r && is_variable t ok)) (op.TryRead f r ok)
  unfolding op_judged
  try_read_is f r ok = grind arith

-- ---- an operation with its offset and guard fails the first test of those that its parts fail

-- one token alone is no guard
pub guarded_one : {A : Type 0} (off : ℕ) (f : A → Token) (xs : List A) → 1 ≤ length xs → length xs < 2
    → guarded_of off (map f xs) ≡ option_map (At off None) (op_of (map f xs))
guarded_one off f [] h k = absurd (omega arith)
guarded_one off f (x ∷ []) h k = refl
guarded_one off f (x ∷ y ∷ ys) h k = absurd (omega arith)

module _ (t : Tables) where
  -- no part of an operation is a new name
  abbrev NoneNew : List Part → Type 0
  NoneNew ps = list_all (is_new_in t) ps ≡ true

  expr_new : (e : Expr Name) → NoneNew (expr_parts e)
  expr_new e = same_tests (is_new_in t) (λ p. true) (λ w. refl) (λ least most n. refl) (λ x. refl) e ∙ all_pass (expr_parts e)
    where
      all_pass : (ps : List Part) → list_all (λ p. true) ps ≡ true
      all_pass [] = refl
      all_pass (p ∷ ps) = all_pass ps

  op_new : (o : Op Name) → NoneNew (op_parts o)
  op_new (op.Set r e) = grind (arith, expr_new, list_all-append)
  op_new o = grind (arith, expr_new, list_all-append)

  timed_is : (n : ℕ) (g : Option Name) (o : Op Name)
      → timed_reading t (number_within 0 (2 ^ 64 - 1) n) g (guard_known t g) (op_judged t o) ≡ reading_by t (Some (At n g o))
  unfolding op_judged fault_by
  timed_is n g o = let none = op_new o in grind arith

  at_read : (n : ℕ) (g : Option Name) (found : Option (Op Name)) (o : Result (Op Name) Code)
      → op_reading t found ≡ Ok o
      → timed_reading t (number_within 0 (2 ^ 64 - 1) n) g (guard_known t g) o ≡ reading_by t (option_map (At n g) found)
  at_read n g None o h = absurd cc
  at_read n g (Some p) o h =
      let k : op_judged t p ≡ o = cc in ap (timed_reading t (number_within 0 (2 ^ 64 - 1) n) g (guard_known t g)) (sym k) ∙ timed_is n g p

  -- what the operation without a guard gives
  pub unguarded_read : (n : ℕ) (found : Option (Op Name)) (offset : Option ℕ) (o : Result (Op Name) Code)
      (result : Result Statement LineFail)
      → offset ≡ number_within 0 (2 ^ 64 - 1) n → op_reading t found ≡ Ok o → LineGives (λ s. s) result (timed_reading t offset None true o)
      → LineGives (λ s. s) result (reading_by t (option_map (At n None) found))
  unguarded_read n found offset o result e h g =
      subst (λ (r : Result Statement Code). LineGives (λ s. s) result r)
      (ap (λ (x : Option ℕ). timed_reading t x None true o) e ∙ at_read n None found o h) g

  passed : (test : Bool) (x : Option Statement) → test ≡ true → reading_by t x ≡ reading_by t (if_then test x)
  passed true x h = refl
  passed false x h = absurd cc

  -- what the operation with a guard gives
  pub guarded_read : (n : ℕ) (r name : Name) (known : Bool) (found : Option (Op Name)) (offset : Option ℕ) (o : Result (Op Name) Code)
      (result : Result Statement LineFail)
      → token_is_name r ≡ true → offset ≡ number_within 0 (2 ^ 64 - 1) n → known ≡ is_variable t r → name ≡ r → op_reading t found ≡ Ok o
      → LineGives (λ s. s) result (timed_reading t offset (Some name) known o)
      → LineGives (λ s. s) result (reading_by t (if_then (token_is_name r) (option_map (At n (Some r)) found)))
  guarded_read n r name known found offset o result w e k m h g =
      subst (λ (x : Result Statement Code). LineGives (λ s. s) result x)
      ((λ i. timed_reading t (e i) (Some (m i)) (k i) o) ∙ at_read n (Some r) found o h
      ∙ passed (token_is_name r) (option_map (At n (Some r)) found) w)
      g
