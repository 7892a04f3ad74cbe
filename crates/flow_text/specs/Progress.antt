-- How far a reader of lines is.
use Rattle.std.specs.Prelude.{◌≡◌, ℕ, List, [], ◌++◌, reverse, Option, Result, Ok}
use Rattle.flow_design.specs.{Scale, Statement}
use Rattle.flow_grammar.specs.{TextFault, lines_of, ◌>>=◌, Read, reading, at_line, line_reading, with_statement, with_number, Tokens.Line}
use Rattle.flow_text.specs.{TablesOf.tables_of, declared.progress.Progress.Progress}

-- the tables are those of the statements that are read, at the session's scale
abbrev pub KeepsTables : Progress → Type 0
KeepsTables p = p.tables ≡ tables_of p.scale (reverse p.statements)

-- nothing is read yet of a session of this scale
pub record IsOpening (scale : Scale) (p : Progress) : Type 0 where
  pub scale_is : p.scale ≡ scale
  pub tables : p.tables ≡ tables_of scale []
  pub statements : p.statements ≡ []
  pub numbers : p.numbers ≡ []

-- the line with this number was read, after what was read before
pub record IsLineAdded (old new : Progress) (number : ℕ) (line : Line) : Type 0 where
  pub said : Option Statement
  pub reads : at_line number (line_reading old.scale old.statements line) ≡ Ok said
  pub statements : new.statements ≡ with_statement old.statements said
  pub numbers : new.numbers ≡ with_number old.numbers number said
  pub same_scale : new.scale ≡ old.scale
  pub kept : KeepsTables new

-- what was read before, followed by what is still read
abbrev pub with_prefix : List Statement → List ℕ → Result Read TextFault → Result Read TextFault
with_prefix statements numbers read = read >>= λ r. Ok (statements ++ r.0, numbers ++ r.1)

-- all n lines of the text are read, as a session of this scale
pub record IsThrough (scale : Scale) (text : List ℕ) (p : Progress) (n : ℕ) : Type 0 where
  pub same_scale : p.scale ≡ scale
  pub kept : KeepsTables p
  pub reads : with_prefix p.statements p.numbers (reading scale p.statements n []) ≡ reading scale [] 0 (lines_of text)
