-- Operations while they are read: an expression or an operation, or the first test that it fails.
use Rattle.std.specs.Prelude.{ℕ, Bool, true, false, [], ◌∷◌, ◌&&◌, not, nat_lt, if◌then◌else◌, Option, None, Some, Result, Ok, Err}
use Rattle.std.specs.List.{list_all}
use Rattle.flow_design.specs.{Expr, Op, Statement, Name, declared.session.Statement.TheVariants.At}
use Rattle.flow_grammar.specs.{Code, ParsedOperand, expr_parts, op_parts, is_among, is_in_range, is_small, has_small_trees, is_known_by}
use Rattle.flow_grammar.specs.{earlier, takes_operations, Parts.AVariable, Trees.Trees, declared.operand.ParsedOperand.TheVariants.Whole}
use Rattle.flow_grammar.specs.{declared.operand.ParsedOperand.TheVariants.Faulty}
use Rattle.flow_grammar.specs.declared.fault.Code.TheVariants.{Syntax, BadNumber, UnknownName, TooMany}
use Rattle.flow_text.specs.{declared.operations.TwoNames.TwoNames, declared.tables.Tables.Tables}
use Rattle.flow_text.specs.TableTests.{names_of_sort, is_known_in}
use Rattle.flow_design.specs.declared.expr.Op.TheVariants as op
use Rattle.flow_text.specs.declared.operations.TwoNames.TheVariants as two

-- a value, or the first of three tests that fails
abbrev pub tested : {A : Type 0} → Bool → Bool → Bool → A → Result A Code
tested ranged known small x =
    if not ranged then Err BadNumber else if not known then Err UnknownName else if not small then Err TooMany else Ok x

-- the name is that of a register or temp
abbrev pub is_variable : Tables → Name → Bool
is_variable t n = is_among (names_of_sort t AVariable) n

-- an expression, or the first test that fails; `known` tells whether the names beside it are known
unfoldable pub tree_judged : Tables → Bool → Expr Name → Result (Expr Name) Code
tree_judged t known e =
    tested (list_all is_in_range (expr_parts e)) (known && list_all (is_known_by (is_variable t)) (expr_parts e)) (is_small e) e

-- two expressions, or the first test that fails; `known` tells whether the names beside them are known
unfoldable pub trees_judged : Tables → Bool → Expr Name → Expr Name → Result (Expr Name × Expr Name) Code
trees_judged t known e f =
    tested (list_all is_in_range (expr_parts e) && list_all is_in_range (expr_parts f))
    (known && (list_all (is_known_by (is_variable t)) (expr_parts e) && list_all (is_known_by (is_variable t)) (expr_parts f)))
    (is_small e && is_small f) (e, f)

-- an operation, or the first test that it fails
unfoldable pub op_judged : Tables → Op Name → Result (Op Name) Code
op_judged t o = tested (list_all is_in_range (op_parts o)) (list_all (is_known_in t) (op_parts o)) (has_small_trees o) o

-- ---- what tokens give that write expressions or an operation

abbrev pub tree_reading : Tables → Bool → Option Trees → Result (Result (Expr Name) Code) Code
tree_reading t known (Some (e ∷ [])) = Ok (tree_judged t known e)
tree_reading t known trees = Err Syntax

abbrev pub trees_reading : Tables → Bool → Option Trees → Result (Result (Expr Name × Expr Name) Code) Code
trees_reading t known (Some (e ∷ f ∷ [])) = Ok (trees_judged t known e f)
trees_reading t known trees = Err Syntax

abbrev pub op_reading : Tables → Option (Op Name) → Result (Result (Op Name) Code) Code
op_reading t None = Err Syntax
op_reading t (Some o) = Ok (op_judged t o)

-- ---- an operand as the reader keeps it

-- the first test that fails, of a code and two tests beside it: whether the names are known, and whether there is room
abbrev pub first_code : Bool → Bool → Code → Code
first_code known room BadNumber = BadNumber
first_code false room c = UnknownName
first_code true room UnknownName = UnknownName
first_code true false c = TooMany
first_code true true c = c

abbrev pub tree_kept : Bool → ParsedOperand → Result (Expr Name) Code
tree_kept known (Faulty c) = Err (first_code known true c)
tree_kept true (Whole e n d) = Ok e
tree_kept false (Whole e n d) = Err UnknownName

abbrev pub trees_kept : Result (Expr Name) Code → Result (Expr Name) Code → Result (Expr Name × Expr Name) Code
trees_kept (Ok e) (Ok f) = Ok (e, f)
trees_kept (Ok e) (Err c) = Err c
trees_kept (Err c) (Ok f) = Err c
trees_kept (Err c) (Err d) = Err (earlier c d)

-- what is made of an expression, if it passed its tests
abbrev pub with_tree : {A B : Type 0} → (A → B) → Result A Code → Result B Code
with_tree f (Err c) = Err c
with_tree f (Ok x) = Ok (f x)

abbrev pub tree_made : {A B : Type 0} → (A → B) → Result (Result A Code) Code → Result (Result B Code) Code
tree_made f (Err c) = Err c
tree_made f (Ok r) = Ok (with_tree f r)

abbrev pub store_op : Name → Expr Name × Expr Name → Op Name
store_op m p = op.Store m p.0 p.1

-- the operation of this kind on a channel and a variable
abbrev pub op_of_names : TwoNames → Name → Name → Op Name
op_of_names two.Read = op.Read
op_of_names two.Empty = op.Empty
op_of_names two.Full = op.Full

-- an operation that has names only, if these are known
abbrev pub named_op : Bool → Op Name → Result (Op Name) Code
named_op known o = if known then Ok o else Err UnknownName

-- ---- an operation with its offset and guard

-- an operation that may stand here gives the statement, or the first test that fails: of its own, its offset, its names, or room
-- for it
abbrev pub op_there : Bool → ℕ → Option Name → Bool → Result (Op Name) Code → Result Statement Code
op_there room off guard known (Err c) = Err (first_code known room c)
op_there room off guard false (Ok o) = Err UnknownName
op_there true off guard true (Ok o) = Ok (At off guard o)
op_there false off guard true (Ok o) = Err TooMany

abbrev pub op_at : Bool → Option ℕ → Option Name → Bool → Result (Op Name) Code → Result Statement Code
op_at room None guard known o = Err BadNumber
op_at room (Some off) guard known o = op_there room off guard known o

abbrev pub timed_by : Bool → Bool → Option ℕ → Option Name → Bool → Result (Op Name) Code → Result Statement Code
timed_by here room off guard known o = if here then op_at room off guard known o else Err Syntax

-- the offset, if what is beside an operation that passes its own tests passes too
abbrev pub offset_there : Bool → Bool → Option ℕ → Bool → Result ℕ Code
offset_there false room off known = Err Syntax
offset_there true room None known = Err BadNumber
offset_there true room (Some off) false = Err UnknownName
offset_there true true (Some off) true = Ok off
offset_there true false (Some off) true = Err TooMany

-- what an operation gives with this offset and guard; `known` tells whether the guard is known
abbrev pub timed_reading : Tables → Option ℕ → Option Name → Bool → Result (Op Name) Code → Result Statement Code
timed_reading t off guard known o = timed_by (takes_operations t.place) (nat_lt t.operations t.limits.operations) off guard known o

abbrev pub guard_known : Tables → Option Name → Bool
guard_known t None = true
guard_known t (Some r) = is_variable t r
