-- Operations and terminators with names replaced by numbers.
use Rattle.std.specs.Prelude.{ℕ, List, ◌++◌, Option, None, Some, option_map}
use Rattle.flow_design.specs.{Expr, Op, Timed, Next, Name, Statement}
use Rattle.flow_design.specs.declared.expr.Expr.{more_of-Expr, Number, Var, Unary, Unary', Binary, Binary', Sext, Sext', Pick, Pick'}
use Rattle.flow_design.specs.declared.expr.Op.TheVariants.{Set, Load, Store, Read, Write, TryRead, TryWrite, Empty, Full}
use Rattle.flow_design.specs.declared.session.Statement.TheVariants.{At, Goto, Branch, Stop}
use Rattle.session_plan.specs.Names.{name_number, Scope}
use Rattle.flow_design.specs.declared.design.Next.TheVariants as next

-- an expression with each name replaced by its number in the list
unfoldable pub numbered_expr : List Name → Expr Name → Expr ℕ
numbered_expr names (Number n) = Number n
numbered_expr names (Var n) = Var (name_number names n)
numbered_expr names (Unary' op s (more_of-Expr a _)) = Unary op (numbered_expr names a)
numbered_expr names (Binary' op s (more_of-Expr a _) t (more_of-Expr b _)) = Binary op (numbered_expr names a) (numbered_expr names b)
numbered_expr names (Sext' k s (more_of-Expr a _)) = Sext k (numbered_expr names a)
numbered_expr names (Pick' s (more_of-Expr a _) t (more_of-Expr b _) u (more_of-Expr c _)) =
    Pick (numbered_expr names a) (numbered_expr names b) (numbered_expr names c)

-- the registers, and then the temps, in the order of their numbers
abbrev pub places : Scope → List Name
places scope = scope.registers ++ scope.temps

-- an operation with its registers, temps, memories and channels replaced by their numbers
abbrev pub operation : Scope → Op Name → Op ℕ
operation scope (Set x e) = Set (name_number (places scope) x) (numbered_expr (places scope) e)
operation scope (Load x m e) = Load (name_number (places scope) x) (name_number scope.memories m) (numbered_expr (places scope) e)
operation scope (Store m e f) = Store (name_number scope.memories m) (numbered_expr (places scope) e) (numbered_expr (places scope) f)
operation scope (Read f x) = Read (name_number scope.channels f) (name_number (places scope) x)
operation scope (Write f e) = Write (name_number scope.channels f) (numbered_expr (places scope) e)
operation scope (TryRead f x ok) = TryRead (name_number scope.channels f) (name_number (places scope) x) (name_number (places scope) ok)
operation scope (TryWrite f ok e) = TryWrite (name_number scope.channels f) (name_number (places scope) ok) (numbered_expr (places scope) e)
operation scope (Empty f x) = Empty (name_number scope.channels f) (name_number (places scope) x)
operation scope (Full f x) = Full (name_number scope.channels f) (name_number (places scope) x)

-- the operation that an `at` schedules; none for any other statement
abbrev pub timed : Scope → Statement → Option Timed
timed scope (At offset guard op) =
    Some (record { offset = offset; guard = option_map (name_number (places scope)) guard; op = operation scope op })
timed scope s = None

-- the terminator that a statement is, if it is one
abbrev pub terminator : Scope → Statement → Option Next
terminator scope (Goto b) = Some (next.Goto (name_number scope.blocks b))
terminator scope (Branch r b c) =
    Some (next.Branch (name_number scope.registers r) (name_number scope.blocks b) (name_number scope.blocks c))
terminator scope Stop = Some next.Stop
terminator scope s = None
