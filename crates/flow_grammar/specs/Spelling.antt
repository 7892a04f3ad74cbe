-- When tokens write a statement under a version of the language: one token for each of its parts.
use Rattle.std.specs.Prelude.{◌≡◌, ◌⊎◌, ℕ, true, List, [], ◌∷◌}
use Rattle.flow_design.specs.{Statement, Token, Name, declared.session.Statement.TheVariants.Fifo}
use Rattle.flow_grammar.specs.{Tokens.is_number, Tokens.token_is_name, Tokens.number_of, Before.has_delays}
use Rattle.flow_grammar.specs.Parts.{Part, Word, New, Use, Label, Num, parts, bare_parts, depth_parts, fifo_parts, default_depth}
use Rattle.flow_grammar.specs.Parts.{default_delay}

-- the token spells the part: a number may have leading zeros
abbrev pub Spells : Token → Part → Type 0
Spells token (Word w) = token ≡ w
Spells token (New space n) = (token_is_name token ≡ true) × (token ≡ n)
Spells token (Use sort n) = (token_is_name token ≡ true) × (token ≡ n)
Spells token (Label n) = (token_is_name token ≡ true) × (token ≡ n)
Spells token (Num least most n) = (is_number token ≡ true) × (number_of token ≡ n)

-- the tokens spell the parts, one token for each part
abbrev pub Spelled : List Token → List Part → Type 0
Spelled [] [] = Unit {0}
Spelled [] (p ∷ ps) = ⊥
Spelled (t ∷ ts) [] = ⊥
Spelled (t ∷ ts) (p ∷ ps) = Spells t p × Spelled ts ps

-- the tokens write a FIFO: with its delay, if the version has delays; without its delay where that is 1; without its depth too
-- where that is 2
abbrev pub WritesFifo : ℕ → List Token → Name → ℕ → ℕ → ℕ → Type 0
WritesFifo version tokens n w depth delay =
    ((has_delays version ≡ true) × Spelled tokens (fifo_parts n w depth delay))
    ⊎ (((delay ≡ default_delay) × Spelled tokens (depth_parts n w depth))
    ⊎ ((depth ≡ default_depth) × (delay ≡ default_delay) × Spelled tokens (bare_parts n w)))

-- the tokens write the statement under a version, whatever its numbers are and whatever comes before it
abbrev pub Writes : ℕ → List Token → Statement → Type 0
Writes version tokens (Fifo n w depth delay) = WritesFifo version tokens n w depth delay
Writes version tokens s = Spelled tokens (parts s)
