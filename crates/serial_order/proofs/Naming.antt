-- Which variables an expression names, case by case.
use Rattle.std.proofs.Common.{◌≡◌, ℕ, ◌==◌, ◌||◌, false, refl}
use Rattle.serial_order.specs.{Expr, UnOp, BinOp, names}
use Rattle.flow_design.specs.declared.expr.Expr.{Unary, Binary, Sext, Pick, Number, Var}
use Rattle.flow_design.specs.declared.expr.Expr.TheBlock.{hidden-the_row-Expr-0}

pub names_number : (x n : ℕ) → names x (Number n) ≡ false
unfolding names
names_number x n = refl

pub names_var : (x at : ℕ) → names x (Var at) ≡ (at == x)
unfolding names
names_var x at = refl

pub names_unary : (x : ℕ) (op : UnOp) (a : Expr ℕ) → names x (Unary op a) ≡ names x a
unfolding names hidden-the_row-Expr-0 denote.Hole.Carrier.hidden
names_unary x op a = refl

pub names_binary : (x : ℕ) (op : BinOp) (a b : Expr ℕ) → names x (Binary op a b) ≡ (names x a || names x b)
unfolding names hidden-the_row-Expr-0 denote.Hole.Carrier.hidden
names_binary x op a b = refl

pub names_sext : (x k : ℕ) (a : Expr ℕ) → names x (Sext k a) ≡ names x a
unfolding names hidden-the_row-Expr-0 denote.Hole.Carrier.hidden
names_sext x k a = refl

pub names_pick : (x : ℕ) (a b c : Expr ℕ) → names x (Pick a b c) ≡ (names x a || (names x b || names x c))
unfolding names hidden-the_row-Expr-0 denote.Hole.Carrier.hidden
names_pick x a b c = refl

-- all cases, for the search
pub ruleset the_names = (names_number, names_var, names_unary, names_binary, names_sext, names_pick)
