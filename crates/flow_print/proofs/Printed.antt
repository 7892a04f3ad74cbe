-- Texts that grow by the parts of a statement, each with a space before it.
use Rattle.std.proofs.Common.{◌≡◌, ℕ, ◌+◌, ◌<◌, length, take, get_or, List, [], ◌∷◌, ◌++◌, map, ap, sym, refl, append-nil, append_assoc}
use Rattle.std.proofs.lemmas.Grind.{flat_map-append}
use Rattle.std.specs.{Prelude.codes, Fmt.decimal, List.join_with_byte}
use Rattle.flow_print.specs.{Statement, Part, plain, parts, line, text_of_lines, token_of, statement_tokens, spaced_parts}
use Rattle.flow_design.specs.declared.session.Statement.TheVariants.{Input}
use Rattle.flow_grammar.proofs.SpellingLaws.{parts_Number, parts_Var, parts_Unary, parts_Binary, parts_Sext, parts_Pick}
use Rattle.report_text.proofs.LineLemmas.{lines_more}

-- ---- parts one after another

pub spaced_append : (ps qs : List Part) → spaced_parts (ps ++ qs) ≡ spaced_parts ps ++ spaced_parts qs
unfolding spaced_parts
spaced_append ps qs = flat_map-append (λ p. 32 ∷ token_of p) ps qs

-- all cases of expressions, for the search
pub ruleset spaced_expressions =
    (parts_Number, parts_Var, parts_Unary, parts_Binary, parts_Sext, parts_Pick, spaced_append, append_assoc, append-nil)

-- ---- lines

-- tokens joined by spaces: the first, and then each with a space before it
pub joined : (token : List ℕ) (ps : List Part) → join_with_byte 32 (token ∷ map token_of ps) ≡ token ++ spaced_parts ps
unfolding spaced_parts
joined token [] = sym (append-nil token)
joined token (p ∷ ps) = ap (λ t. token ++ 32 ∷ t) (joined (token_of p) ps)

pub ruleset spaced_lines = (joined, spaced_append, append_assoc)

-- ---- inputs

plain_tokens : (values : List ℕ) → map token_of (map plain values) ≡ map decimal values
plain_tokens [] = refl
plain_tokens (v ∷ vs) = ap (λ ts. decimal v ∷ ts) (plain_tokens vs)

-- the line of the values of a source
pub input_line : (text source : List ℕ) (values : List ℕ)
    → text ++ line (codes "input" ∷ source ∷ map decimal values) ≡ text ++ line (map token_of (parts (Input source values)))
input_line text source values = ap (λ ts. text ++ line (codes "input" ∷ source ∷ ts)) (sym (plain_tokens values))

-- the lines of the statements before one, and that one's line
pub next_line : (version : ℕ) (statements : List Statement) (i : ℕ) (s : Statement) → i < length statements → s ≡ get_or statements i s
    → text_of_lines (map (statement_tokens version) (take i statements)) ++ line (statement_tokens version s)
    ≡ text_of_lines (map (statement_tokens version) (take (i + 1) statements))
next_line version statements i s h e = lines_more (statement_tokens version) [] statements i s h e
