-- Induction on expressions, one case for each variant.
use Rattle.std.proofs.Common.{ℕ, sym, subst}
use Rattle.flow_grammar.specs.{Expr, UnOp, BinOp}
use Rattle.flow_design.specs.declared.expr.Expr.{ind-Expr, roll-Expr, map-Expr}
use Rattle.flow_design.specs.declared.expr.Expr.TheOpen.{Expr-F}
use Rattle.flow_design.specs.declared.expr.Expr.TheVariants.{Number, Var, Unary, Binary, Sext, Pick, rolls-Number, rolls-Var, rolls-Unary}
use Rattle.flow_design.specs.declared.expr.Expr.TheVariants.{rolls-Binary, rolls-Sext, rolls-Pick}

-- what each variant has where its parts have it, each expression has
pub record Cases (X : Type 0) (P : Expr X → Type 0) : Type 0 where
  pub number : (n : ℕ) → P (Number n)
  pub var : (x : X) → P (Var x)
  pub unary : (o : UnOp) (a : Expr X) → P a → P (Unary o a)
  pub binary : (o : BinOp) (a b : Expr X) → P a → P b → P (Binary o a b)
  pub sext : (k : ℕ) (a : Expr X) → P a → P (Sext k a)
  pub pick : (a b c : Expr X) → P a → P b → P c → P (Pick a b c)

module _ (X : Type 0) (P : Expr X → Type 0) (cases : Cases X P) where
  -- a part, with what it has
  abbrev Part : Type 0
  Part = (a : Expr X) × P a

  layer : (y : Expr-F X Part) → P (roll-Expr X (map-Expr X Part (Expr X) (λ p. p.0) y))
  layer (Expr-F.Number n) = subst P (sym (rolls-Number n)) (cases.number n)
  layer (Expr-F.Var x) = subst P (sym (rolls-Var x)) (cases.var x)
  layer (Expr-F.Unary o a) = subst P (sym (rolls-Unary o a.0)) (cases.unary o a.0 a.1)
  layer (Expr-F.Binary o a b) = subst P (sym (rolls-Binary o a.0 b.0)) (cases.binary o a.0 b.0 a.1 b.1)
  layer (Expr-F.Sext k a) = subst P (sym (rolls-Sext k a.0)) (cases.sext k a.0 a.1)
  layer (Expr-F.Pick a b c) = subst P (sym (rolls-Pick a.0 b.0 c.0)) (cases.pick a.0 b.0 c.0 a.1 b.1 c.1)

  pub by_cases : (e : Expr X) → P e
  by_cases = ind-Expr X P (λ x y h. subst (λ (z : Expr-F X (Expr X)). P (roll-Expr X z)) h (layer y))
