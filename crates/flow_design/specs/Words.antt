-- Word values: a number below 2^64, and the value of an expression, one line of the language's table per case.
use Rattle.std.specs.Prelude.{ℕ, max, ◌+◌, ◌-◌, ◌*◌, ◌/◌, ◌%◌, ◌^◌, ◌==◌, not, List, ◌++◌, slice_index, nat_lt, if◌then◌else◌, bit_and}
use Rattle.std.specs.Prelude.{bit_or, bit_xor, int_lt}
use Rattle.std.specs.Int.{from_bool, cast_signed, w64}
use Rattle.flow_design.specs.declared.expr.Expr.{Expr, more_of-Expr, Number, Var, Unary', Binary', Sext', Pick', fold-Expr}
use Rattle.flow_design.specs.{declared.expr.Expr.TheOpen.Expr-F, declared.expr.UnOp.UnOp, declared.expr.BinOp.BinOp}
use Rattle.flow_design.specs.declared.expr.UnOp.TheVariants.{Not}
use Rattle.flow_design.specs.declared.expr.BinOp.TheVariants.{Add, Sub, Mul, And, Or, Xor, Shl, Shr, Eq, Ne, LtU, LtS, Div, Rem}

-- a value cut to a width: the value modulo 2^width
abbrev pub cut_to : ℕ → ℕ → ℕ
cut_to width v = v % 2 ^ width

abbrev pub unary : UnOp → ℕ → ℕ
unary Not a = 2 ^ 64 - 1 - a

abbrev pub binary : BinOp → ℕ → ℕ → ℕ
binary Add a b = (a + b) % 2 ^ 64
binary Sub a b = (a + (2 ^ 64 - b)) % 2 ^ 64
binary Mul a b = (a * b) % 2 ^ 64
binary And a b = bit_and a b
binary Or a b = bit_or a b
binary Xor a b = bit_xor a b
binary Shl a b = if nat_lt b 64 then (a * 2 ^ b) % 2 ^ 64 else 0
binary Shr a b = if nat_lt b 64 then a / 2 ^ b else 0
binary Eq a b = from_bool (a == b)
binary Ne a b = from_bool (not (a == b))
binary LtU a b = from_bool (nat_lt a b)
binary LtS a b = from_bool (int_lt (cast_signed w64 a) (cast_signed w64 b))
binary Div a b = if b == 0 then 2 ^ 64 - 1 else a / b
binary Rem a b = if b == 0 then a else a % b

-- a value of k bits, read in two's complement and widened to 64 bits
abbrev pub extended : ℕ → ℕ → ℕ
extended k low = if nat_lt low (2 ^ (k - 1)) then low else low + (2 ^ 64 - 2 ^ k)

-- the register or temp with this number: temps are numbered after the registers
abbrev pub variable : List ℕ → List ℕ → ℕ → ℕ
variable registers temps at = slice_index (registers ++ temps) at

-- the value of an expression on registers and temps
unfoldable pub value : List ℕ → List ℕ → Expr ℕ → ℕ
value registers temps (Number n) = n
value registers temps (Var at) = variable registers temps at
value registers temps (Unary' op s (more_of-Expr a _)) = unary op (value registers temps a)
value registers temps (Binary' op s (more_of-Expr a _) t (more_of-Expr b _)) = binary op (value registers temps a) (value registers temps b)
value registers temps (Sext' k s (more_of-Expr a _)) = extended k (value registers temps a % 2 ^ k)
value registers temps (Pick' s (more_of-Expr a _) t (more_of-Expr b _) u (more_of-Expr c _)) =
    if value registers temps a == 0 then value registers temps c else value registers temps b

-- ---- how large an expression is

abbrev pub layer_reach : Expr-F ℕ ℕ → ℕ
layer_reach (Expr-F.Number n) = 0
layer_reach (Expr-F.Var at) = at + 1
layer_reach (Expr-F.Unary op a) = a
layer_reach (Expr-F.Binary op a b) = max a b
layer_reach (Expr-F.Sext k a) = a
layer_reach (Expr-F.Pick a b c) = max a (max b c)

-- one more than the greatest variable number in an expression, or 0 where it has no variable
unfoldable pub reach : Expr ℕ → ℕ
reach = fold-Expr ℕ ℕ layer_reach

abbrev pub layer_nodes : {N : Type 0} → Expr-F N ℕ → ℕ
layer_nodes (Expr-F.Number n) = 1
layer_nodes (Expr-F.Var at) = 1
layer_nodes (Expr-F.Unary op a) = 1 + a
layer_nodes (Expr-F.Binary op a b) = 1 + (a + b)
layer_nodes (Expr-F.Sext k a) = 1 + a
layer_nodes (Expr-F.Pick a b c) = 1 + (a + (b + c))

-- how many numbers, variables and operators an expression has
unfoldable pub nodes : {N : Type 0} → Expr N → ℕ
nodes {N} = fold-Expr N ℕ layer_nodes

abbrev pub layer_depth : {N : Type 0} → Expr-F N ℕ → ℕ
layer_depth (Expr-F.Number n) = 1
layer_depth (Expr-F.Var at) = 1
layer_depth (Expr-F.Unary op a) = 1 + a
layer_depth (Expr-F.Binary op a b) = 1 + max a b
layer_depth (Expr-F.Sext k a) = 1 + a
layer_depth (Expr-F.Pick a b c) = 1 + max a (max b c)

-- how deep an expression nests: 1 for a number or a variable, and one more than its deepest part for an operator
unfoldable pub depth : {N : Type 0} → Expr N → ℕ
depth {N} = fold-Expr N ℕ layer_depth
