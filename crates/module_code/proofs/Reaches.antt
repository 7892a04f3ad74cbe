-- The reach of an expression, variant by variant.
use Rattle.std.proofs.Common.{◌≡◌, sym, ◌∙◌, ap, arith, ℕ, ◌+◌, ◌<◌, ◌≤◌, max}
use Rattle.module_code.specs.{Expr, UnOp, BinOp, reach, layer_reach}
use Rattle.flow_design.specs.{declared.expr.Expr.fold-roll-Expr, declared.expr.Expr.TheOpen.Expr-F}
use Rattle.flow_design.specs.declared.expr.Expr.TheVariants.{Var, Unary, Binary, Sext, Pick, rolls-Var, rolls-Unary, rolls-Binary}
use Rattle.flow_design.specs.declared.expr.Expr.TheVariants.{rolls-Sext, rolls-Pick}

pub reach_var : (x : ℕ) → reach (Var x) ≡ x + 1
unfolding reach
reach_var x = ap reach (sym (rolls-Var x)) ∙ fold-roll-Expr ℕ ℕ layer_reach (Expr-F.Var x)

pub reach_unary : (o : UnOp) (a : Expr ℕ) → reach (Unary o a) ≡ reach a
unfolding reach
reach_unary o a = ap reach (sym (rolls-Unary o a)) ∙ fold-roll-Expr ℕ ℕ layer_reach (Expr-F.Unary o a)

pub reach_binary : (o : BinOp) (a b : Expr ℕ) → reach (Binary o a b) ≡ max (reach a) (reach b)
unfolding reach
reach_binary o a b = ap reach (sym (rolls-Binary o a b)) ∙ fold-roll-Expr ℕ ℕ layer_reach (Expr-F.Binary o a b)

pub reach_sext : (k : ℕ) (a : Expr ℕ) → reach (Sext k a) ≡ reach a
unfolding reach
reach_sext k a = ap reach (sym (rolls-Sext k a)) ∙ fold-roll-Expr ℕ ℕ layer_reach (Expr-F.Sext k a)

pub reach_pick : (a b c : Expr ℕ) → reach (Pick a b c) ≡ max (reach a) (max (reach b) (reach c))
unfolding reach
reach_pick a b c = ap reach (sym (rolls-Pick a b c)) ∙ fold-roll-Expr ℕ ℕ layer_reach (Expr-F.Pick a b c)

-- ---- what covers an expression covers its parts

pub var_below : (x places : ℕ) → reach (Var x) ≤ places → x < places
var_below x places wide = let e = reach_var x in omega (arith, e)

pub unary_part : (o : UnOp) (a : Expr ℕ) (places : ℕ) → reach (Unary o a) ≤ places → reach a ≤ places
unary_part o a places wide = let e = reach_unary o a in omega (arith, e)

pub sext_part : (k : ℕ) (a : Expr ℕ) (places : ℕ) → reach (Sext k a) ≤ places → reach a ≤ places
sext_part k a places wide = let e = reach_sext k a in omega (arith, e)

pub binary_first : (o : BinOp) (a b : Expr ℕ) (places : ℕ) → reach (Binary o a b) ≤ places → reach a ≤ places
binary_first o a b places wide = let e = reach_binary o a b in omega (arith, e)

pub binary_second : (o : BinOp) (a b : Expr ℕ) (places : ℕ) → reach (Binary o a b) ≤ places → reach b ≤ places
binary_second o a b places wide = let e = reach_binary o a b in omega (arith, e)

pub pick_first : (a b c : Expr ℕ) (places : ℕ) → reach (Pick a b c) ≤ places → reach a ≤ places
pick_first a b c places wide = let e = reach_pick a b c in omega (arith, e)

pub pick_second : (a b c : Expr ℕ) (places : ℕ) → reach (Pick a b c) ≤ places → reach b ≤ places
pick_second a b c places wide = let e = reach_pick a b c in omega (arith, e)

pub pick_third : (a b c : Expr ℕ) (places : ℕ) → reach (Pick a b c) ≤ places → reach c ≤ places
pick_third a b c places wide = let e = reach_pick a b c in omega (arith, e)
