-- The canonical text of a session: one statement on each line, one space between tokens, numbers without leading zeros, each FIFO's
-- depth written out, and its delay too in a version with delays.
use Rattle.std.specs.{Prelude.ℕ, Prelude.List, Prelude.◌∷◌, Prelude.map, Prelude.if◌then◌else◌, Fmt.decimal, List.flat_map}
use Rattle.flow_design.specs.{Statement, Token, declared.session.Statement.TheVariants.Flow, declared.session.Statement.TheVariants.Fifo}
use Rattle.flow_grammar.specs.{has_delays, Part, parts, depth_parts, fifo_parts, Parts.Word, Parts.New, Parts.Use, Parts.Label, Parts.Num}
use Rattle.report_text.specs.{text_of_lines}

-- the token that writes a part
abbrev pub token_of : Part → Token
token_of (Word w) = w
token_of (New space n) = n
token_of (Use sort n) = n
token_of (Label n) = n
token_of (Num least most n) = decimal n

-- the parts of a statement that are written under a version of the language
abbrev pub written_parts : ℕ → Statement → List Part
written_parts version (Fifo n w depth delay) = if has_delays version then fifo_parts n w depth delay else depth_parts n w depth
written_parts version s = parts s

-- the tokens that write a statement under a version of the language
abbrev pub statement_tokens : ℕ → Statement → List Token
statement_tokens version s = map token_of (written_parts version s)

-- the version that the first statement of a session declares; 1 where it is no `flow`
abbrev pub version_of : List Statement → ℕ
version_of (Flow v ∷ after) = v
version_of statements = 1

-- the canonical text of these statements
unfoldable pub canonical_text : List Statement → List ℕ
canonical_text statements = text_of_lines (map (statement_tokens (version_of statements)) statements)

-- parts as they follow others in a line: each with a space before it
unfoldable pub spaced_parts : List Part → List ℕ
spaced_parts ps = flat_map (λ p. 32 ∷ token_of p) ps
