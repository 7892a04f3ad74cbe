-- Texts that differ only in the version of the language.
use Rattle.std.specs.Prelude.{◌≡◌, ℕ, List, ◌∷◌, ◌++◌}
use Rattle.flow_design.specs.{Statement, declared.session.Statement.TheVariants.Flow}
use Rattle.flow_grammar.specs.{Tokens.Line, Tokens.lines_of, Tokens.tokens_of, Parts.parts, Spelling.Spelled}

-- where the first text says `flow 1`, the second says `flow 2`, and all their other lines are the same
pub record DifferInVersion (first second : List ℕ) : Type 0 where
  pub front : List Line
  pub one : Line
  pub two : Line
  pub after : List Line
  pub first_lines : lines_of first ≡ front ++ one ∷ after
  pub second_lines : lines_of second ≡ front ++ two ∷ after
  pub says_one : Spelled (tokens_of one) (parts (Flow 1))
  pub says_two : Spelled (tokens_of two) (parts (Flow 2))

-- the statements differ only in the version
pub record SameButVersion (first second : List Statement) : Type 0 where
  pub after : List Statement
  pub first_are : first ≡ Flow 1 ∷ after
  pub second_are : second ≡ Flow 2 ∷ after
