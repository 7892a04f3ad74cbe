-- Trees, and what the reader keeps of them.
use Rattle.std.proofs.Common.{◌≡◌, ℕ, List, ◌∷◌, map, Bool, Option, None, Some, sym, ap, ◌∙◌, arith}
use Rattle.std.specs.Prelude.{option_map}
use Rattle.flow_grammar.specs.{Expr, UnOp, BinOp, Operator, ParsedOperand, operator_of, applied_if, with_token, trees_of, layer_seen}
use Rattle.flow_grammar.specs.{operand_seen, apply_if, take_token, Trees.Trees}
use Rattle.flow_design.specs.{declared.expr.Expr.fold-Expr, declared.expr.Expr.fold-roll-Expr, declared.expr.Expr.TheOpen.Expr-F}
use Rattle.flow_design.specs.declared.expr.Expr.TheVariants.{Number, Var, Unary, Binary, Sext, Pick, rolls-Number, rolls-Var, rolls-Unary}
use Rattle.flow_design.specs.declared.expr.Expr.TheVariants.{rolls-Binary, rolls-Sext, rolls-Pick}

-- a fold at each variant
module _ (X A : Type 0) (step : Expr-F X A → A) where
  abbrev pub folded : Expr X → A
  folded = fold-Expr X A step

  pub folded-Number : (n : ℕ) → folded (Number n) ≡ step (Expr-F.Number n)
  folded-Number n = ap folded (sym (rolls-Number n)) ∙ fold-roll-Expr X A step (Expr-F.Number n)

  pub folded-Var : (x : X) → folded (Var x) ≡ step (Expr-F.Var x)
  folded-Var x = ap folded (sym (rolls-Var x)) ∙ fold-roll-Expr X A step (Expr-F.Var x)

  pub folded-Unary : (o : UnOp) (a : Expr X) → folded (Unary o a) ≡ step (Expr-F.Unary o (folded a))
  folded-Unary o a = ap folded (sym (rolls-Unary o a)) ∙ fold-roll-Expr X A step (Expr-F.Unary o a)

  pub folded-Binary : (o : BinOp) (a b : Expr X) → folded (Binary o a b) ≡ step (Expr-F.Binary o (folded a) (folded b))
  folded-Binary o a b = ap folded (sym (rolls-Binary o a b)) ∙ fold-roll-Expr X A step (Expr-F.Binary o a b)

  pub folded-Sext : (k : ℕ) (a : Expr X) → folded (Sext k a) ≡ step (Expr-F.Sext k (folded a))
  folded-Sext k a = ap folded (sym (rolls-Sext k a)) ∙ fold-roll-Expr X A step (Expr-F.Sext k a)

  pub folded-Pick : (a b c : Expr X) → folded (Pick a b c) ≡ step (Expr-F.Pick (folded a) (folded b) (folded c))
  folded-Pick a b c = ap folded (sym (rolls-Pick a b c)) ∙ fold-roll-Expr X A step (Expr-F.Pick a b c)

module _ (known : List ℕ → Bool) where
  abbrev pub views : Option Trees → Option (List ParsedOperand)
  views found = option_map (map (operand_seen known)) found

  seen_applied : (o : Option Operator) (after : List (List ℕ)) (trees : Trees)
      → views (applied_if o after trees) ≡ apply_if o after (map (operand_seen known) trees)
  unfolding operand_seen
  seen_applied o after trees = grind (
    arith,
    folded-Unary (List ℕ) ParsedOperand (layer_seen known),
    folded-Binary (List ℕ) ParsedOperand (layer_seen known),
    folded-Sext (List ℕ) ParsedOperand (layer_seen known),
    folded-Pick (List ℕ) ParsedOperand (layer_seen known),
  )

  pub seen_token : (token : List ℕ) (after : List (List ℕ)) (trees : Trees)
      → views (with_token token after trees) ≡ take_token known token after (map (operand_seen known) trees)
  unfolding operand_seen with_token take_token
  seen_token token after trees =
      let applied = seen_applied (operator_of token) after trees in
      grind (arith, folded-Number (List ℕ) ParsedOperand (layer_seen known), folded-Var (List ℕ) ParsedOperand (layer_seen known))

  -- one token more in front
  pub more_trees : (token : List ℕ) (after : List (List ℕ)) (stack : List ParsedOperand) → Some stack ≡ views (trees_of after)
      → take_token known token after stack ≡ views (trees_of (token ∷ after))
  unfolding trees_of
  more_trees token after stack e = grind (arith, seen_token)

  -- where no more is made of the tokens
  pub no_trees : (token : List ℕ) (after : List (List ℕ)) (stack : List ParsedOperand) → Some stack ≡ views (trees_of after)
      → take_token known token after stack ≡ None → trees_of (token ∷ after) ≡ None
  no_trees token after stack e h = let more = more_trees token after stack e in grind arith
