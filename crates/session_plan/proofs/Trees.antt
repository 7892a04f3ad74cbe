-- An expression with numbers, case by case.
use Rattle.std.proofs.Common.{◌≡◌, ℕ, List, refl}
use Rattle.session_plan.specs.{Expr, UnOp, BinOp, Name, name_number, numbered_expr}
use Rattle.flow_design.specs.declared.expr.Expr.{Unary, Binary, Sext, Pick, Number, Var}
use Rattle.flow_design.specs.declared.expr.Expr.TheBlock.{hidden-the_row-Expr-0}

pub numbered_number : (names : List Name) (n : ℕ) → numbered_expr names (Number n) ≡ Number n
unfolding numbered_expr
numbered_number names n = refl

pub numbered_var : (names : List Name) (n : Name) → numbered_expr names (Var n) ≡ Var (name_number names n)
unfolding numbered_expr
numbered_var names n = refl

pub numbered_unary : (names : List Name) (op : UnOp) (a : Expr Name) → numbered_expr names (Unary op a) ≡ Unary op (numbered_expr names a)
unfolding numbered_expr hidden-the_row-Expr-0 denote.Hole.Carrier.hidden
numbered_unary names op a = refl

pub numbered_binary : (names : List Name) (op : BinOp) (a b : Expr Name)
    → numbered_expr names (Binary op a b) ≡ Binary op (numbered_expr names a) (numbered_expr names b)
unfolding numbered_expr hidden-the_row-Expr-0 denote.Hole.Carrier.hidden
numbered_binary names op a b = refl

pub numbered_sext : (names : List Name) (k : ℕ) (a : Expr Name) → numbered_expr names (Sext k a) ≡ Sext k (numbered_expr names a)
unfolding numbered_expr hidden-the_row-Expr-0 denote.Hole.Carrier.hidden
numbered_sext names k a = refl

pub numbered_pick : (names : List Name) (a b c : Expr Name)
    → numbered_expr names (Pick a b c) ≡ Pick (numbered_expr names a) (numbered_expr names b) (numbered_expr names c)
unfolding numbered_expr hidden-the_row-Expr-0 denote.Hole.Carrier.hidden
numbered_pick names a b c = refl

-- all cases, for the search
pub ruleset the_numbered = (numbered_number, numbered_var, numbered_unary, numbered_binary, numbered_sext, numbered_pick)
