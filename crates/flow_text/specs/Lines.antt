-- What lines give, by the tables of the statements before them.
use Rattle.std.specs.Prelude.{◌≡◌, ℕ, ◌+◌, List, [], ◌∷◌, length, if◌then◌else◌, Option, None, Some, Result, Ok, Err, IfOk}
use Rattle.std.specs.List.{list_all}
use Rattle.flow_design.specs.{Statement, Token}
use Rattle.flow_grammar.specs.{Code, LineFail, statement_of, LineGives, lines_of, tokens_of, is_permitted}
use Rattle.flow_grammar.specs.{declared.fault.Code.TheVariants.NotAscii, Tokens.Line}
use Rattle.flow_text.specs.{declared.tables.Tables.Tables, TablesOf.tables_with, TableTests.reading_by}

-- what a line says whose tokens give this: its statement, or the first test that it fails
abbrev pub said_by : Result Statement Code → Result (Option Statement) Code
said_by (Ok s) = Ok (Some s)
said_by (Err c) = Err c

-- what the tokens of a line give: nothing where there is none, else their statement or the first test that they fail
unfoldable pub tokens_reading_by : Tables → List Token → Result (Option Statement) Code
tokens_reading_by t [] = Ok None
tokens_reading_by t (x ∷ xs) = said_by (reading_by t (statement_of t.version (x ∷ xs)))

-- what a line gives: what it says, or the first test that it fails
unfoldable pub line_reading_by : Tables → Line → Result (Option Statement) Code
line_reading_by t line = if list_all is_permitted line then tokens_reading_by t (tokens_of line) else Err NotAscii

-- the tables after a line that says this
abbrev pub accepted_if : Tables → Option Statement → Tables
accepted_if t None = t
accepted_if t (Some s) = tables_with t s

-- the result is the statement that is read, and the tables have it too; or it is the first test that fails, or want of memory
pub record ReadsStatement (old new : Tables) (result : Result Statement LineFail) (read : Result Statement Code) : Type 0 where
  pub given : LineGives (λ s. s) result read
  pub kept : IfOk result (λ s. new ≡ tables_with old s)

-- the result is what the line says, a statement or nothing, and the tables have its statement too; or it is the first test that fails, or
-- want of memory
pub record ReadsLine (old new : Tables) (result : Result (Option Statement) LineFail) (read : Result (Option Statement) Code) : Type 0
  where
    pub given : LineGives (λ said. said) result read
    pub kept : IfOk result (λ said. new ≡ accepted_if old said)

-- the lines that are left to read
abbrev pub lines_left : Option (List ℕ) → List Line
lines_left None = []
lines_left (Some rest) = lines_of rest

-- how many bytes are left to read, counting one for the end
abbrev pub bytes_left : Option (List ℕ) → ℕ
bytes_left None = 0
bytes_left (Some rest) = length rest + 1
