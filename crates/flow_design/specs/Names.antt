-- Names: 1 to 64 letters, digits and underscores, not beginning with a digit, and not the word `sext`.
use Rattle.std.specs.Prelude.{ℕ, Bool, false, not, ◌&&◌, ◌||◌, ◌==◌, nat_le, List, [], ◌∷◌, length, codes}
use Rattle.std.specs.{List.list_all, Char.is_ascii_alphabetic, Char.is_ascii_alphanumeric, Str.bytes_eq}

-- a token of a text, as its bytes
abbrev pub Token : Type 0
Token = List ℕ

-- a name, as its bytes
abbrev pub Name : Type 0
Name = List ℕ

-- the byte is a letter, a digit or an underscore
abbrev pub is_name_byte : ℕ → Bool
is_name_byte c = is_ascii_alphanumeric c || (c == 95)

-- the first byte is a letter or an underscore
abbrev pub begins_with_letter : List ℕ → Bool
begins_with_letter [] = false
begins_with_letter (c ∷ cs) = is_ascii_alphabetic c || (c == 95)

-- the bytes are a name
abbrev pub is_name : List ℕ → Bool
is_name bytes =
    begins_with_letter bytes && (list_all is_name_byte bytes && (nat_le (length bytes) 64 && not (bytes_eq bytes (codes "sext"))))
