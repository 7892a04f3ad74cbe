-- The value of an expression, case by case.
use Rattle.std.proofs.Common.{◌≡◌, ℕ, ◌%◌, ◌^◌, ◌==◌, List, refl, cond}
use Rattle.flow_design.specs.{Expr, UnOp, BinOp, unary, binary, extended, variable, value}
use Rattle.flow_design.specs.declared.expr.Expr.{Unary, Binary, Sext, Pick, Number, Var}
use Rattle.flow_design.specs.declared.expr.Expr.TheBlock.{hidden-the_row-Expr-0}

pub value_number : (registers temps : List ℕ) (n : ℕ) → value registers temps (Number n) ≡ n
unfolding value
value_number registers temps n = refl

pub value_var : (registers temps : List ℕ) (at : ℕ) → value registers temps (Var at) ≡ variable registers temps at
unfolding value
value_var registers temps at = refl

pub value_unary : (registers temps : List ℕ) (op : UnOp) (a : Expr ℕ) → value registers temps (Unary op a) ≡ unary op
    (value registers temps a)
unfolding value hidden-the_row-Expr-0 denote.Hole.Carrier.hidden
value_unary registers temps op a = refl

pub value_binary : (registers temps : List ℕ) (op : BinOp) (a b : Expr ℕ)
    → value registers temps (Binary op a b) ≡ binary op (value registers temps a) (value registers temps b)
unfolding value hidden-the_row-Expr-0 denote.Hole.Carrier.hidden
value_binary registers temps op a b = refl

pub value_sext : (registers temps : List ℕ) (k : ℕ) (a : Expr ℕ) → value registers temps (Sext k a) ≡ extended k
    (value registers temps a % 2 ^ k)
unfolding value hidden-the_row-Expr-0 denote.Hole.Carrier.hidden
value_sext registers temps k a = refl

pub value_pick : (registers temps : List ℕ) (a b c : Expr ℕ)
    → value registers temps (Pick a b c) ≡ cond (value registers temps a == 0) (value registers temps c) (value registers temps b)
unfolding value hidden-the_row-Expr-0 denote.Hole.Carrier.hidden
value_pick registers temps a b c = refl

-- all cases, for the search
pub ruleset the_values = (value_number, value_var, value_unary, value_binary, value_sext, value_pick)
