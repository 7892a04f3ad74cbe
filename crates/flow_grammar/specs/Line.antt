-- What one line gives, computed. Its statement depends on the line and on the version that is declared before it. The first test
-- that it fails depends on all statements before it too, and on the scale.
use Rattle.std.specs.Prelude.{List, [], ◌∷◌, reverse, Option, None, Some, if◌then◌else◌}
use Rattle.std.specs.List.{list_all}
use Rattle.flow_design.specs.{Scale, Statement, Token}
use Rattle.flow_grammar.specs.{declared.fault.Code.Code, Before.version, Forms.statement_of, Places.may_follow, Rules.statement_fault}
use Rattle.flow_grammar.specs.declared.fault.Code.TheVariants.{NotAscii, Syntax}
use Rattle.flow_grammar.specs.Tokens.{Line, tokens_of, is_permitted}

-- the first test that a statement fails after the statements `earlier`, the latest first; `Syntax` where there is no statement
abbrev pub form_fault : Scale → List Statement → Option Statement → Option Code
form_fault scale earlier None = Some Syntax
form_fault scale earlier (Some s) = if may_follow earlier s then statement_fault scale earlier s else Some Syntax

abbrev pub tokens_fault : Scale → List Statement → List Token → Option Code
tokens_fault scale earlier [] = None
tokens_fault scale earlier (t ∷ ts) = form_fault scale earlier (statement_of (version earlier) (t ∷ ts))

-- the statement that the tokens of a line write, if there is one
unfoldable pub statement_in : List Statement → Line → Option Statement
statement_in before line = statement_of (version (reverse before)) (tokens_of line)

-- the first test that a line fails after the statements `before`
unfoldable pub line_fault : Scale → List Statement → Line → Option Code
line_fault scale before line = if list_all is_permitted line then tokens_fault scale (reverse before) (tokens_of line) else Some NotAscii
