-- What is kept of an expression is the first test that it fails, or the expression with its size.
use Rattle.std.proofs.Common.{◌≡◌, ℕ, ◌^◌, ◌-◌, List, Bool, true, ◌∙◌, arith}
use Rattle.std.proofs.{lemmas.Bool.Decides.nat_tests, lemmas.List.Folds.list_all-append}
use Rattle.std.specs.{Prelude.◌&&◌, Prelude.nat_le, Prelude.nat_lt, List.list_all}
use Rattle.flow_grammar.specs.{Expr, UnOp, nodes, depth, expr_parts, is_in_range, operand_seen, operand_kept, is_known_by}
use Rattle.flow_design.specs.{declared.expr.Expr.TheVariants.Unary, declared.expr.UnOp.TheVariants.Not}
use Rattle.flow_grammar.proofs.Induction.{by_cases}
use Rattle.flow_grammar.proofs.Trees.{folded-Number, folded-Var, folded-Unary, folded-Binary, folded-Sext, folded-Pick}
use Rattle.flow_grammar.proofs.SpellingLaws.{parts_Number, parts_Var, parts_Unary, parts_Binary, parts_Sext, parts_Pick}
use Rattle.flow_grammar.proofs.Verdicts.{verdict, verdict_one, verdict_two, verdict_sext, verdict_pick}

word_test : (n : ℕ) → (nat_le 0 n && nat_le n (2 ^ 64 - 1)) && true ≡ nat_lt n (2 ^ 64)
word_test n = grind (arith, nat_tests)

module _ (known : List ℕ → Bool) where
  abbrev ranged : Expr (List ℕ) → Bool
  ranged e = list_all is_in_range (expr_parts e)

  abbrev familiar : Expr (List ℕ) → Bool
  familiar e = list_all (is_known_by known) (expr_parts e)

  abbrev Told : Expr (List ℕ) → Type 0
  Told e = operand_seen known e ≡ verdict (ranged e) (familiar e) e (nodes e) (depth e)

  told_unary : (o : UnOp) (a : Expr (List ℕ)) → Told a → Told (Unary o a)
  unfolding nodes depth operand_seen
  told_unary Not a h = simp (folded-Unary, h, verdict_one, parts_Unary)

  told : (e : Expr (List ℕ)) → Told e
  unfolding nodes depth operand_seen
  told = by_cases (List ℕ) Told (record {
    number = λ n. simp (parts_Number, folded-Number, word_test);
    var = λ x. simp (parts_Var, folded-Var) (grind arith);
    unary = told_unary;
    binary = λ o a b h k. simp (folded-Binary, h, k, verdict_two, parts_Binary, list_all-append);
    sext = λ k a h. simp (folded-Sext, h, verdict_sext, parts_Sext);
    pick = λ a b c h k l. simp (folded-Pick, h, k, l, verdict_pick, parts_Pick, list_all-append);
  })

  pub kept_of : (e : Expr (List ℕ)) → operand_seen known e ≡ operand_kept known e
  unfolding operand_kept
  kept_of e = told e ∙ grind arith

  pub kept_all : operand_seen known ≡ operand_kept known
  kept_all = λ i e. kept_of e i
