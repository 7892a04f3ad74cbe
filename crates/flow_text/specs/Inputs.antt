-- The values of an input.
use Rattle.std.specs.Prelude.{ℕ, ◌+◌, ◌-◌, ◌^◌, Bool, List, length, ◌&&◌, not, nat_le, if◌then◌else◌, Option, None, Some, Result, Ok, Err}
use Rattle.std.specs.List.{list_all}
use Rattle.flow_design.specs.{Statement, Name, declared.session.Statement.TheVariants.Input}
use Rattle.flow_grammar.specs.{Code, is_among, takes_inputs}
use Rattle.flow_grammar.specs.declared.fault.Code.TheVariants.{Syntax, BadNumber, DoubleName, UnknownName, TooMany}
use Rattle.flow_text.specs.declared.tables.Tables.{Tables}

-- the number is below 2^64, and so a word
abbrev pub is_plain : ℕ → Bool
is_plain n = nat_le 0 n && nat_le n (2 ^ 64 - 1)

-- these numbers, if each of them is a word
abbrev pub words_within : List ℕ → Option (List ℕ)
words_within ns = if list_all is_plain ns then Some ns else None

abbrev pub input_of_words : Tables → Name → Option (List ℕ) → Result Statement Code
input_of_words t n None = Err BadNumber
input_of_words t n (Some values) =
    if is_among t.inputs n then Err DoubleName
    else if not (is_among t.sources n) then Err UnknownName
    else if nat_le (t.input_values + length values) t.limits.input_values then Ok (Input n values)
    else Err TooMany

-- what an `input` with this name and these values gives; there are no values where one of them is no word
abbrev pub input_reading : Tables → Name → Option (List ℕ) → Result Statement Code
input_reading t n words = if takes_inputs t.place then input_of_words t n words else Err Syntax
