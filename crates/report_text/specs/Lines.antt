-- Lines of tokens: every text that the program writes is made of them.
use Rattle.std.specs.Prelude.{ℕ, List, [], ◌∷◌, ◌++◌, codes, decimal}
use Rattle.std.specs.List.{flat_map, join_with_byte}
use Rattle.flow_design.specs.{Verdict, Token}
use Rattle.flow_design.specs.declared.report.Verdict.TheVariants.{Done, Deadlock, Cycles, Ops}

-- a line: its tokens with one space between each two, and a line feed at its end
abbrev pub line : List Token → List ℕ
line tokens = join_with_byte 32 tokens ++ 10 ∷ []

-- the text of lines, one after the other
abbrev pub text_of_lines : List (List Token) → List ℕ
text_of_lines = flat_map line

-- the words of a verdict, as `done C`; and then, of its line
abbrev pub verdict_words : Verdict → List Token
verdict_words (Done c) = codes "done" ∷ decimal c ∷ []
verdict_words (Deadlock c) = codes "deadlock" ∷ decimal c ∷ []
verdict_words (Cycles c) = codes "cycles" ∷ decimal c ∷ []
verdict_words (Ops c) = codes "ops" ∷ decimal c ∷ []

abbrev pub verdict_tokens : Verdict → List Token
verdict_tokens verdict = codes "verdict" ∷ verdict_words verdict

-- the tokens of `runs K`, the last line of a text
abbrev pub runs_tokens : ℕ → List Token
runs_tokens runs = codes "runs" ∷ decimal runs ∷ []

-- numbers, each with a space before it
abbrev pub spaced : List ℕ → List ℕ
spaced = flat_map (λ n. 32 ∷ decimal n)
