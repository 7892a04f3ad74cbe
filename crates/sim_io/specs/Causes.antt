-- Why a source or a sink may fail, and what a run of many calls does to its bytes.
use Rattle.std.specs.Prelude.{◌≡◌, ℕ, ◌+◌, ◌^◌, ◌-◌, ◌≤◌, min, List, ◌++◌, length, take, Result, OnErr, IsErrOf}
use Rattle.std.specs.{declared.option.Option.Option, Io.KnownBytes.Consumes, Io.KnownBytes.Appends}

-- the count rose, or stands at the greatest u64
abbrev pub Rose : ℕ → ℕ → Type 0
Rose before now = min (before + 1) (2 ^ 64 - 1) ≤ now

-- faults are counted: the count never falls, and an answer Err comes only where it rose
pub record HasCause {T E : Type 0} (before now : ℕ) (result : Result T E) : Type 0 where
  pub later : before ≤ now
  pub failed : OnErr result (Rose before now)

-- faults are counted: the count never falls, and this error comes only where it rose
pub record HasCauseOf {T E : Type 0} (error : E) (before now : ℕ) (result : Result T E) : Type 0 where
  pub later : before ≤ now
  pub failed : IsErrOf result error → Rose before now

-- exactly n bytes went from the beginning of the known bytes
pub record LosesCount (old new : Option (List ℕ)) (n : ℕ) : Type 0 where
  pub bytes : List ℕ
  pub consumed : Consumes old new bytes
  pub count : length bytes ≡ n

-- at most n bytes went from the beginning of the known bytes
pub record LosesAtMost (old new : Option (List ℕ)) (n : ℕ) : Type 0 where
  pub bytes : List ℕ
  pub consumed : Consumes old new bytes
  pub count : length bytes ≤ n

-- exactly n bytes went from the beginning of the known bytes to the end of a list
pub record Moves (old new : Option (List ℕ)) (before after : List ℕ) (n : ℕ) : Type 0 where
  pub bytes : List ℕ
  pub consumed : Consumes old new bytes
  pub gained : after ≡ before ++ bytes
  pub count : length bytes ≡ n

-- a prefix of the text was added to the known bytes
pub record AppendsPrefix (old new : Option (List ℕ)) (text : List ℕ) : Type 0 where
  pub count : ℕ
  pub appended : Appends old new (take count text)
