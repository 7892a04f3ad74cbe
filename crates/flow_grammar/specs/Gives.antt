-- A function answered this, unless memory ran out.
use Rattle.std.specs.Prelude.{◌≡◌, ℕ, ◌+◌, List, [], ◌∷◌, ◌++◌, Bool, true, false, Option, None, Some, Result, Ok, Err}
use Rattle.flow_design.specs.{Scale, Statement}
use Rattle.flow_grammar.specs.{declared.fault.Code.Code, declared.fault.TextFault.TextFault, declared.fault.ReadFail.ReadFail}
use Rattle.flow_grammar.specs.{declared.fault.LineFail.LineFail, Line.statement_in, Line.line_fault, Rules.is_complete}
use Rattle.flow_grammar.specs.declared.fault.Code.TheVariants.{Truncated, Syntax}
use Rattle.flow_grammar.specs.declared.operand.ParsedOperand.{ParsedOperand}
use Rattle.flow_grammar.specs.declared.fault.ReadFail.TheVariants as fails
use Rattle.flow_grammar.specs.declared.fault.LineFail.TheVariants as line_fails

-- a value, or the fault if there is one
abbrev pub judged : {A : Type 0} → Option Code → A → Result A Code
judged None value = Ok value
judged (Some code) value = Err code

unfoldable pub line_reading : Scale → List Statement → List ℕ → Result (Option Statement) Code
line_reading scale before line = judged (line_fault scale before line) (statement_in before line)

abbrev pub LineFails : {Y : Type 0} → LineFail → Result Y Code → Type 0
LineFails line_fails.OutOfMemory read = Unit {0}
LineFails (line_fails.Fault code) read = read ≡ Err code

abbrev pub LineGives : {X Y : Type 0} → (X → Y) → Result X LineFail → Result Y Code → Type 0
LineGives view (Ok x) read = read ≡ Ok (view x)
LineGives view (Err e) read = LineFails e read

abbrev pub TextFails : {Y : Type 0} → ReadFail → Result Y TextFault → Type 0
TextFails fails.OutOfMemory read = Unit {0}
TextFails (fails.Text fault) read = read ≡ Err fault

abbrev pub TextGives : {X Y : Type 0} → (X → Y) → Result X ReadFail → Result Y TextFault → Type 0
TextGives view (Ok x) read = read ≡ Ok (view x)
TextGives view (Err e) read = TextFails e read

infixl 10 ◌>>=◌
abbrev pub ◌>>=◌ : {A B : Type 0} → Result A TextFault → (A → Result B TextFault) → Result B TextFault
(Ok x) >>= f = f x
(Err e) >>= f = Err e

abbrev pub at_line : {A : Type 0} → ℕ → Result A Code → Result A TextFault
at_line n (Err code) = Err (record { line = n; code = code })
at_line n (Ok x) = Ok x

abbrev pub with_statement : List Statement → Option Statement → List Statement
with_statement before None = before
with_statement before (Some statement) = before ++ statement ∷ []

abbrev pub with_number : List ℕ → ℕ → Option Statement → List ℕ
with_number before n None = before
with_number before n (Some statement) = before ++ n ∷ []

-- what is read of a text: statements, and the numbers of their lines
abbrev pub Read : Type 0
Read = List Statement × List ℕ

abbrev pub prepended : ℕ → Option Statement → Read → Read
prepended n None r = r
prepended n (Some statement) r = (statement ∷ r.0, n ∷ r.1)

abbrev pub ended : Bool → ℕ → Result Read TextFault
ended true n = Ok ([], [])
ended false n = Err (record { line = n; code = Truncated })

-- what these lines give after n lines with the statements `before`: the session's statements, or the first fault
unfoldable pub reading : Scale → List Statement → ℕ → List (List ℕ) → Result Read TextFault
reading scale before n [] = ended (is_complete before) n
reading scale before n (line ∷ lines) =
    at_line (n + 1) (line_reading scale before line) >>= λ statement. reading scale (with_statement before statement) (n + 1) lines
    >>= λ r. Ok (prepended (n + 1) statement r)

-- the operand, if exactly one was read
abbrev pub only_operand : Option (List ParsedOperand) → Result ParsedOperand Code
only_operand (Some (o ∷ [])) = Ok o
only_operand found = Err Syntax

-- the two operands, if exactly two were read
abbrev pub both_operands : Option (List ParsedOperand) → Result (ParsedOperand × ParsedOperand) Code
both_operands (Some (o ∷ (p ∷ []))) = Ok (o, p)
both_operands found = Err Syntax
