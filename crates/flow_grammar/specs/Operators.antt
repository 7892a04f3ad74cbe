-- The operator tokens: one table, for reading them and for spelling them.
use Rattle.std.specs.{Prelude.ℕ, Prelude.List, Prelude.[], Prelude.◌∷◌, Prelude.codes, Prelude.Option, List.find}
use Rattle.flow_design.specs.{declared.expr.UnOp.TheVariants.Not, BinOp, Token}
use Rattle.flow_design.specs.declared.expr.BinOp.TheVariants.{Add, Sub, Mul, And, Or, Xor, Shl, Shr, Eq, Ne, LtU, LtS, Div, Rem}
use Rattle.flow_grammar.specs.{declared.operator.Operator.Operator, Tokens.is_word}
use Rattle.flow_grammar.specs.declared.operator.Operator.TheVariants.{One, Two, Extend, Choose}

abbrev pub binary_word : BinOp → List ℕ
binary_word Add = codes "+"
binary_word Sub = codes "-"
binary_word Mul = codes "*"
binary_word And = codes "&"
binary_word Or = codes "|"
binary_word Xor = codes "^"
binary_word Shl = codes "<<"
binary_word Shr = codes ">>"
binary_word Eq = codes "=="
binary_word Ne = codes "!="
binary_word LtU = codes "<u"
binary_word LtS = codes "<s"
binary_word Div = codes "/"
binary_word Rem = codes "%"

abbrev pub operator_word : Operator → List ℕ
operator_word (One Not) = codes "~"
operator_word (Two o) = binary_word o
operator_word Extend = codes "sext"
operator_word Choose = codes "?:"

abbrev pub operators : List Operator
operators =
    One Not ∷ Two Add ∷ Two Sub ∷ Two Mul ∷ Two And ∷ Two Or ∷ Two Xor ∷ Two Shl ∷ Two Shr ∷ Two Eq ∷ Two Ne ∷ Two LtU ∷ Two LtS ∷ Two Div
    ∷ Two Rem ∷ Extend ∷ Choose ∷ []

-- the operator that a token is, if it is one
unfoldable pub operator_of : Token → Option Operator
operator_of token = find (λ o. is_word token (operator_word o)) operators
