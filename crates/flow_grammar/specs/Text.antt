-- What a text stands for at a scale, and the fault that it has, said of all its lines at once.
use Rattle.std.specs.Prelude.{◌≡◌, ℕ, ◌+◌, ◌<◌, ◌≤◌, ◌⊎◌, true, false, List, [], ◌∷◌, length, take, reverse, slice_index_or, Option, None}
use Rattle.std.specs.Prelude.{Some, IfSome, Result, Ok, Err}
use Rattle.std.specs.List.{list_all, filter_map}
use Rattle.flow_design.specs.{Scale, Session, limits_at, Statement}
use Rattle.flow_grammar.specs.{declared.fault.Code.Code, declared.fault.TextFault.TextFault, declared.fault.ReadFail.ReadFail}
use Rattle.flow_grammar.specs.{Before.version, Spelling.Writes, Places.may_follow, Rules.statement_fault, Rules.is_complete}
use Rattle.flow_grammar.specs.declared.fault.Code.TheVariants.{TooLong, NotAscii, Syntax, Truncated}
use Rattle.flow_grammar.specs.Tokens.{Line, lines_of, tokens_of, is_permitted}
use Rattle.flow_grammar.specs.declared.fault.ReadFail.TheVariants as fails

-- ---- one line

-- what a line says under a version: nothing, or the statement that its tokens write
abbrev pub Says : ℕ → Line → Option Statement → Type 0
Says v line None = tokens_of line ≡ []
Says v line (Some s) = Writes v (tokens_of line) s

-- the statements among what lines say
abbrev pub statements_among : List (Option Statement) → List Statement
statements_among said = filter_map (λ s. s) said

-- the statement is in order after these statements
pub record StandsAfter (scale : Scale) (before : List Statement) (s : Statement) : Type 0 where
  pub permitted : may_follow (reverse before) s ≡ true
  pub faultless : statement_fault scale (reverse before) s ≡ None

-- the line is in order after these statements, and says this
pub record IsInOrder (scale : Scale) (before : List Statement) (line : Line) (said : Option Statement) : Type 0 where
  pub bytes : list_all is_permitted line ≡ true
  pub says : Says (version (reverse before)) line said
  pub stands : IfSome said (StandsAfter scale before)

-- the line has a token, and writes no statement that may come after these statements
pub record IsNoStatement (before : List Statement) (line : Line) : Type 0 where
  pub some_token : ¬ (tokens_of line ≡ [])
  pub none : (s : Statement) → Writes (version (reverse before)) (tokens_of line) s → may_follow (reverse before) s ≡ false

-- the line writes a statement that may come after these statements, and this is the first rule that it breaks
pub record BreaksRule (scale : Scale) (before : List Statement) (line : Line) (code : Code) : Type 0 where
  pub statement : Statement
  pub writes : Writes (version (reverse before)) (tokens_of line) statement
  pub permitted : may_follow (reverse before) statement ≡ true
  pub fault : statement_fault scale (reverse before) statement ≡ Some code

-- the line fails this test first, after these statements
abbrev pub Fails : Scale → List Statement → Line → Code → Type 0
Fails scale before line code =
    ((list_all is_permitted line ≡ false) × (code ≡ NotAscii))
    ⊎ ((list_all is_permitted line ≡ true) × (IsNoStatement before line × (code ≡ Syntax) ⊎ BreaksRule scale before line code))

-- ---- all lines

abbrev line_at : List Line → ℕ → Line
line_at lines i = slice_index_or lines i []

-- each line is in order after the statements of the lines before it, and says this
pub record LinesAreInOrder (scale : Scale) (lines : List Line) (said : List (Option Statement)) : Type 0 where
  pub count : length said ≡ length lines
  pub each : (i : ℕ) → i < length lines → IsInOrder scale (statements_among (take i said)) (line_at lines i) (slice_index_or said i None)

-- the numbers of the lines with a statement, where the first line has the number n
abbrev pub numbers_among : ℕ → List (Option Statement) → List ℕ
numbers_among n [] = []
numbers_among n (None ∷ said) = numbers_among (n + 1) said
numbers_among n (Some s ∷ said) = n ∷ numbers_among (n + 1) said

-- the text stands for these statements, on the lines with these numbers
pub record StandsFor (scale : Scale) (text : List ℕ) (statements : List Statement) (numbers : List ℕ) : Type 0 where
  pub short : length text ≤ (limits_at scale).text_bytes
  pub said : List (Option Statement)
  pub in_order : LinesAreInOrder scale (lines_of text) said
  pub over : is_complete (statements_among said) ≡ true
  pub statements_are : statements ≡ statements_among said
  pub numbers_are : numbers ≡ numbers_among 1 said

-- a line fails a test, and all lines before it are in order
pub record FailsFirst (scale : Scale) (lines : List Line) (fault : TextFault) : Type 0 where
  pub said : List (Option Statement)
  pub some : length said < length lines
  pub in_order : LinesAreInOrder scale (take (length said) lines) said
  pub fails : Fails scale (statements_among said) (line_at lines (length said)) fault.code
  pub line : fault.line ≡ length said + 1

-- all lines are in order, but there is no `end`: the fault's line is one more than the number of line feeds
pub record HasNoEnd (scale : Scale) (lines : List Line) (fault : TextFault) : Type 0 where
  pub said : List (Option Statement)
  pub in_order : LinesAreInOrder scale lines said
  pub not_over : is_complete (statements_among said) ≡ false
  pub code : fault.code ≡ Truncated
  pub line : fault.line ≡ length lines

-- the text has this fault
abbrev pub HasFault : Scale → List ℕ → TextFault → Type 0
HasFault scale text fault =
    (((limits_at scale).text_bytes < length text) × (fault ≡ record { line = 0; code = TooLong }))
    ⊎ ((length text ≤ (limits_at scale).text_bytes) × (FailsFirst scale (lines_of text) fault ⊎ HasNoEnd scale (lines_of text) fault))

-- ---- what a reader answers

-- the reader answered a session that the text stands for, or a fault that the text has, or that memory ran out
abbrev pub IsAnswer : Scale → List ℕ → Result (List Statement × List ℕ) ReadFail → Type 0
IsAnswer scale text (Ok read) = StandsFor scale text read.0 read.1
IsAnswer scale text (Err fails.OutOfMemory) = Unit {0}
IsAnswer scale text (Err (fails.Text fault)) = HasFault scale text fault

-- the reader answered this, or that memory ran out
abbrev pub ReadsAs : {A : Type 0} → Result A ReadFail → Result A TextFault → Type 0
ReadsAs (Ok x) wanted = wanted ≡ Ok x
ReadsAs (Err fails.OutOfMemory) wanted = Unit {0}
ReadsAs (Err (fails.Text fault)) wanted = wanted ≡ Err fault

-- the reader's answer, with the session as the list of its statements
abbrev pub session_of : Result (Session × List ℕ) ReadFail → Result (List Statement × List ℕ) ReadFail
session_of (Ok read) = Ok (read.0.statements, read.1)
session_of (Err fail) = Err fail

-- what an answer says of a text: it stands for this session, or it has this fault
abbrev pub Said : Scale → List ℕ → Result (List Statement × List ℕ) TextFault → Type 0
Said scale text (Ok read) = StandsFor scale text read.0 read.1
Said scale text (Err fault) = HasFault scale text fault
