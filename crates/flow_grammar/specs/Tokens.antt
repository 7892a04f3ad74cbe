-- The lines of a text, and the tokens of a line.
use Rattle.std.specs.Prelude.{ℕ, Bool, true, false, List, [], ◌∷◌, ◌==◌, ◌&&◌, ◌||◌, not, nat_le, filter, take_while}
use Rattle.std.specs.{List.slice_split, List.list_all, Char.is_ascii_digit, Str.bytes_eq, Str.Parse.digits_value}
use Rattle.flow_design.specs.{Token}
use Rattle.flow_design.specs.Names as names

-- the bytes of a line
abbrev pub Line : Type 0
Line = List ℕ

abbrev pub is_line_feed : ℕ → Bool
is_line_feed b = b == 10

-- the lines of a text: the parts between its line feeds
abbrev pub lines_of : List ℕ → List Line
lines_of text = slice_split is_line_feed text

-- the byte may stand in a line
abbrev pub is_permitted : ℕ → Bool
is_permitted b = (b == 9) || ((b == 13) || (nat_le 32 b && nat_le b 126))

abbrev pub is_separator : ℕ → Bool
is_separator b = (b == 9) || ((b == 13) || (b == 32))

-- the byte belongs to a token or a comment, and separates nothing
abbrev pub is_filler : ℕ → Bool
is_filler b = not (is_separator b)

abbrev pub is_filled : Token → Bool
is_filled [] = false
is_filled (b ∷ bs) = true

-- the token does not begin with `#`
abbrev pub is_no_comment : Token → Bool
is_no_comment [] = true
is_no_comment (b ∷ bs) = not (b == 35)

-- the tokens of a line: its non-empty parts between separators, up to the first that begins with `#`
unfoldable pub tokens_of : Line → List Token
tokens_of line = take_while is_no_comment (filter is_filled (slice_split is_separator line))

-- the token is a number: it has digits only, and at least one
unfoldable pub is_number : Token → Bool
is_number token = is_filled token && list_all is_ascii_digit token

-- the number that a token writes, whatever leading zeros it has
abbrev pub number_of : Token → ℕ
number_of token = digits_value 10 token

-- the token is a name: 1 to 64 letters, digits and underscores, not beginning with a digit, and not `sext`
unfoldable pub token_is_name : Token → Bool
token_is_name token = names.is_name token

-- the token is this word
abbrev pub is_word : Token → List ℕ → Bool
is_word token word = bytes_eq token word
