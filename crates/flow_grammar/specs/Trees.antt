-- Expressions in prefix form: the tokens, from the last to the first, make up trees.
use Rattle.std.specs.Prelude.{List, [], ◌∷◌, if◌then◌else◌, Option, None, Some}
use Rattle.std.specs.Option.{option_and_then}
use Rattle.flow_design.specs.{Expr, Name, Token}
use Rattle.flow_design.specs.declared.expr.Expr.TheVariants.{Number, Var, Unary, Binary, Sext, Pick}
use Rattle.flow_grammar.specs.{declared.operator.Operator.Operator, Operators.operator_of}
use Rattle.flow_grammar.specs.declared.operator.Operator.TheVariants.{One, Two, Extend, Choose}
use Rattle.flow_grammar.specs.Tokens.{is_number, token_is_name, number_of}

abbrev pub Trees : Type 0
Trees = List (Expr Name)

-- `sext` on the first tree: the token after it is the number of bits, and no operand
abbrev pub extended_tree : List Token → Trees → Option Trees
extended_tree (k ∷ after) (number ∷ a ∷ trees) = if is_number k then Some (Sext (number_of k) a ∷ trees) else None
extended_tree after trees = None

-- an operator on the first trees, as many as it has operands
abbrev pub applied : Operator → List Token → Trees → Option Trees
applied (One o) after (a ∷ trees) = Some (Unary o a ∷ trees)
applied (Two o) after (a ∷ b ∷ trees) = Some (Binary o a b ∷ trees)
applied Extend after trees = extended_tree after trees
applied Choose after (a ∷ b ∷ c ∷ trees) = Some (Pick a b c ∷ trees)
applied o after trees = None

abbrev pub applied_if : Option Operator → List Token → Trees → Option Trees
applied_if None after trees = None
applied_if (Some o) after trees = applied o after trees

-- the trees after one more token, which stands before the tokens taken so far
unfoldable pub with_token : Token → List Token → Trees → Option Trees
with_token token after trees =
    if is_number token then Some (Number (number_of token) ∷ trees)
    else if token_is_name token then Some (Var token ∷ trees)
    else applied_if (operator_of token) after trees

-- the expressions that tokens write one after the other; none where they write no expressions
unfoldable pub trees_of : List Token → Option Trees
trees_of [] = Some []
trees_of (token ∷ after) = option_and_then (with_token token after) (trees_of after)
