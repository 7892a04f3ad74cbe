-- Expressions as the reader keeps them: of one that fails a test it keeps only the first test that it fails.
use Rattle.std.specs.Prelude.{◌≡◌, ℕ, ◌+◌, ◌^◌, max, Bool, true, false, List, ◌∷◌, ◌&&◌, nat_le, nat_lt, if◌then◌else◌, not, Option, None}
use Rattle.std.specs.Prelude.{Some}
use Rattle.std.specs.List.{list_all}
use Rattle.flow_design.specs.declared.limits.TheConstants.{EXPRESSION_NODES, EXPRESSION_DEPTH}
use Rattle.flow_design.specs.{Expr, UnOp, BinOp, nodes, depth, Name, declared.expr.Expr.fold-Expr, declared.expr.Expr.TheOpen.Expr-F}
use Rattle.flow_design.specs.declared.expr.Expr.TheVariants.{Number, Var, Unary, Binary, Sext, Pick}
use Rattle.flow_grammar.specs.{declared.fault.Code.Code, declared.operand.ParsedOperand.ParsedOperand, declared.operator.Operator.Operator}
use Rattle.flow_grammar.specs.{Parts.Part, Parts.Use, Parts.expr_parts, Rules.is_in_range, Rules.is_small, Numbers.number_within}
use Rattle.flow_grammar.specs.{Operators.operator_of, Tokens.is_number, Tokens.token_is_name, Tokens.number_of}
use Rattle.flow_grammar.specs.declared.fault.Code.TheVariants.{BadNumber, UnknownName, TooMany}
use Rattle.flow_grammar.specs.declared.operand.ParsedOperand.TheVariants.{Whole, Faulty}
use Rattle.flow_grammar.specs.declared.operator.Operator.TheVariants.{One, Two, Extend, Choose}

-- the earlier of two tests that an expression may fail, in the order in which they are tried
unfoldable pub earlier : Code → Code → Code
earlier BadNumber d = BadNumber
earlier UnknownName BadNumber = BadNumber
earlier UnknownName d = UnknownName
earlier c d = d

-- a tree with this many nodes and levels, or the code for too many
abbrev pub sized_operand : Expr (List ℕ) → ℕ → ℕ → ParsedOperand
sized_operand tree nodes depth =
    if nat_le nodes EXPRESSION_NODES && nat_le depth EXPRESSION_DEPTH then Whole tree nodes depth else Faulty TooMany

abbrev pub operand_of_number : ℕ → ParsedOperand
operand_of_number n = if nat_lt n (2 ^ 64) then Whole (Number n) 1 1 else Faulty BadNumber

unfoldable pub one : UnOp → ParsedOperand → ParsedOperand
one o (Whole a n d) = sized_operand (Unary o a) (1 + n) (1 + d)
one o (Faulty c) = Faulty c

-- the earlier of a test and the test that an operand fails, if it fails one
unfoldable pub earlier_of : Code → ParsedOperand → Code
earlier_of c (Whole a n d) = c
earlier_of c (Faulty d) = earlier c d

unfoldable pub two : BinOp → ParsedOperand → ParsedOperand → ParsedOperand
two o (Whole a n d) (Whole b m e) = sized_operand (Binary o a b) (1 + (n + m)) (1 + max d e)
two o (Whole a n d) (Faulty c) = Faulty c
two o (Faulty c) b = Faulty (earlier_of c b)

abbrev pub operand_of_name : (List ℕ → Bool) → List ℕ → ParsedOperand
operand_of_name known name = if known name then Whole (Var name) 1 1 else Faulty UnknownName

abbrev pub widened : ℕ → ParsedOperand → ParsedOperand
widened k (Whole a n d) = sized_operand (Sext k a) (1 + n) (1 + d)
widened k (Faulty c) = Faulty c

abbrev pub widened_by : Option ℕ → ParsedOperand → ParsedOperand
widened_by None a = Faulty BadNumber
widened_by (Some k) a = widened k a

unfoldable pub extend : ℕ → ParsedOperand → ParsedOperand
extend k a = widened_by (number_within 1 64 k) a

unfoldable pub choose : ParsedOperand → ParsedOperand → ParsedOperand → ParsedOperand
choose (Whole a n d) (Whole b m e) (Whole c l f) = sized_operand (Pick a b c) (1 + (n + (m + l))) (1 + max d (max e f))
choose (Whole a n d) (Whole b m e) (Faulty z) = Faulty z
choose (Whole a n d) (Faulty y) c = Faulty (earlier_of y c)
choose (Faulty x) b c = Faulty (earlier_of (earlier_of x b) c)

-- the operand that a layer of an expression makes of its operands
abbrev pub layer_seen : (List ℕ → Bool) → Expr-F (List ℕ) ParsedOperand → ParsedOperand
layer_seen known (Expr-F.Number n) = operand_of_number n
layer_seen known (Expr-F.Var name) = operand_of_name known name
layer_seen known (Expr-F.Unary o a) = one o a
layer_seen known (Expr-F.Binary o a b) = two o a b
layer_seen known (Expr-F.Sext k a) = extend k a
layer_seen known (Expr-F.Pick a b c) = choose a b c

unfoldable pub operand_seen : (List ℕ → Bool) → Expr (List ℕ) → ParsedOperand
operand_seen known = fold-Expr (List ℕ) ParsedOperand (layer_seen known)

-- operands on a stack, for the steps that trees take too
abbrev pub Stacked : Type 0
Stacked = List ParsedOperand

abbrev pub extend_top : List (List ℕ) → Stacked → Option Stacked
extend_top (k ∷ after) (number ∷ a ∷ stack) = if is_number k then Some (extend (number_of k) a ∷ stack) else None
extend_top after stack = None

abbrev pub apply : Operator → List (List ℕ) → Stacked → Option Stacked
apply (One o) after (a ∷ stack) = Some (one o a ∷ stack)
apply (Two o) after (a ∷ b ∷ stack) = Some (two o a b ∷ stack)
apply Extend after stack = extend_top after stack
apply Choose after (a ∷ b ∷ c ∷ stack) = Some (choose a b c ∷ stack)
apply o after stack = None

abbrev pub apply_if : Option Operator → List (List ℕ) → Stacked → Option Stacked
apply_if None after stack = None
apply_if (Some o) after stack = apply o after stack

unfoldable pub take_token : (List ℕ → Bool) → List ℕ → List (List ℕ) → Stacked → Option Stacked
take_token known token after stack =
    if is_number token then Some (operand_of_number (number_of token) ∷ stack)
    else if token_is_name token then Some (operand_of_name known token ∷ stack)
    else apply_if (operator_of token) after stack

-- a step on the stack either took the token, and this is the stack then, or no expression can be made
abbrev pub Takes : Bool → Stacked → Option Stacked → Type 0
Takes true new found = found ≡ Some new
Takes false new found = found ≡ None

-- ---- the operand of a whole expression

-- the name in this part, if there is one, is known
abbrev pub is_known_by : (Name → Bool) → Part → Bool
is_known_by known (Use sort name) = known name
is_known_by known part = true

-- the operand of an expression: the first test that it fails, or the expression with its size
unfoldable pub operand_kept : (Name → Bool) → Expr Name → ParsedOperand
operand_kept known e =
    if not (list_all is_in_range (expr_parts e)) then Faulty BadNumber
    else if not (list_all (is_known_by known) (expr_parts e)) then Faulty UnknownName
    else if not (is_small e) then Faulty TooMany
    else Whole e (nodes e) (depth e)
