-- What the parser gives, in terms of what the words say.
use Rattle.std.specs.Prelude.{◌≡◌, ◌∷◌, List, [], Option, Some, None, Result, Ok, Err, option_map, ⊤}
use Rattle.std.specs.Borrow.{Bor}
use Rattle.cli_words.specs.{declared.parser.Given.Given, declared.WordFault.WordFault}
use Rattle.cli_words.specs.CommandWords.{Arguments, Text, accepted, command_of}
use Rattle.cli_words.specs.declared.WordFault.TheVariants as fault

-- the bytes of a text, if there is one
abbrev pub text_of : Option (Bor Text) → Option Text
text_of = option_map (λ s. s.now)

-- the last positional, if there is one
abbrev pub last_positional : Option Text → List Text
last_positional None = []
last_positional (Some word) = word ∷ []

-- the second and the third positional, as far as they are there
abbrev pub further_of : Option Text → Option Text → List Text
further_of None third = []
further_of (Some word) third = word ∷ last_positional third

-- the positionals up to the first that is absent
abbrev pub positionals_of : Option Text → Option Text → Option Text → List Text
positionals_of None second third = []
positionals_of (Some word) second third = word ∷ further_of second third

-- what the words said, by what the parser gives
abbrev pub said_of : Given → Arguments
said_of g = record {
  events = g.events;
  polls = g.polls;
  large = g.large;
  cycles = text_of g.cycles;
  ops = text_of g.ops;
  slack = text_of g.slack;
  positionals = positionals_of (text_of g.command) (text_of g.second) (text_of g.third);
}

-- the positionals after the command's name
abbrev pub further_positionals : Given → List Text
further_positionals g = further_of (text_of g.second) (text_of g.third)

-- the parser's answer is right: it gives the command that the words are, and refuses only words that are not accepted
abbrev pub IsGivenBy : List Text → Result Given WordFault → Type 0
IsGivenBy words (Ok g) = accepted words ≡ command_of (said_of g)
IsGivenBy words (Err fault.Refused) = accepted words ≡ None
IsGivenBy words (Err fault.OutOfMemory) = ⊤
