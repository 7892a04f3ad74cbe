-- The number of a name among names.
use Rattle.std.specs.Prelude.{ℕ, List, [], ◌∷◌, ◌+◌, length, Option, None, Some, option_map, unwrap_or, if◌then◌else◌}
use Rattle.std.specs.Str.{bytes_eq}
use Rattle.flow_design.specs.{Name}

-- the place in a list where a name stands first, if it is there
abbrev pub place_among : List Name → Name → Option ℕ
place_among [] n = None
place_among (m ∷ names) n = if bytes_eq n m then Some 0 else option_map (λ k. k + 1) (place_among names n)

-- the number of a name: its place in the list, or the number of names where it is not there
abbrev pub name_number : List Name → Name → ℕ
name_number names n = unwrap_or (place_among names n) (length names)

-- the names that a body may use: the channels of the session, what its module declares, and its temps
pub record Scope : Type 0 where
  pub channels : List Name
  pub registers : List Name
  pub memories : List Name
  pub blocks : List Name
  pub temps : List Name
