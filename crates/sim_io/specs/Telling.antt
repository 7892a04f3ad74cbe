-- A text that is written piece by piece.
use Rattle.std.specs.{Prelude.◌≡◌, Prelude.ℕ, Prelude.List, Prelude.◌++◌, declared.option.Option.Option, Io.KnownBytes.Appends}

-- a prefix of the text was added to the known bytes, and the rest of it is pending
pub record IsTold (old new : Option (List ℕ)) (pending text : List ℕ) : Type 0 where
  pub sent : List ℕ
  pub appended : Appends old new sent
  pub whole : sent ++ pending ≡ text
